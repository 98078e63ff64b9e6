-- 01, Refusal numbers: build. What comes back of a curve, and what every lent slice holds afterwards, over what the library does.
use Rattle.std.specs.Prelude.{ℕ, Bool, true, false, cond, ◌||◌, List, ltb, Float, length, set, Err, None, Ok, Option, Some}
use Rattle.refusal.specs.Refusal.{number}
use Rattle.refusal.specs.declared.Refusal.TheVariants.{BufferTooShort, SplitUnknown}
use Rattle.table.specs.Buffers.{Buffers, Outcome, buffers}
use Rattle.table.specs.declared.ends.Seam.{Seam}
use Rattle.curve.specs.Curve.{curve_in_numbers, Built}

-- a seam across the boundary: whether there is one, its count and its node
abbrev pub seam_of : Bool → ℕ → Float → Option Seam
seam_of false count node = None
seam_of true count node = Some (record { count = count; node = node })

-- a refusal's number, or 0, and the lent slices as they are left
pub record CurveAcross : Type 0 where
  pub refusal : ℕ
  pub buffers : Buffers
  pub sections : List ℕ
  pub tail : List Float

abbrev pub across : ℕ → List Float → List ℕ → List Float → List ℕ → List Float → CurveAcross
across refusal nodes tags slots sections tail = record { refusal = refusal; buffers = buffers nodes tags slots; sections = sections; tail = tail }

-- a curve's own numbers take one entry and three
abbrev pub no_answer : ℕ → ℕ → Bool
no_answer sections tail = ltb sections 1 || ltb tail 3

-- with no room for them: the refusal that there is, and else 11, which comes last
abbrev pub short_refusal : Built → ℕ
short_refusal (Ok c) = number BufferTooShort
short_refusal (Err r) = number r

-- what an answer's slice holds: a curve's numbers from the start, or what it held
abbrev pub count_left : Built → List ℕ → List ℕ
count_left (Ok c) old = set old 0 c.sections
count_left (Err r) old = old

abbrev pub tail_left : Built → List Float → List Float
tail_left (Ok c) old = set (set (set old 0 c.tail.value) 1 c.tail.total) 2 c.tail.from
tail_left (Err r) old = old

-- What a call answers and leaves across the boundary, for slices that are lent as these. With no room for a curve's own numbers no slice changes.
abbrev pub curve_across : Buffers → List ℕ → List Float → Outcome Built → CurveAcross
curve_across b sections tail o =
    cond (no_answer (length sections) (length tail))
    (record { refusal = short_refusal o.answer; buffers = b; sections = sections; tail = tail })
    (record { refusal = (curve_in_numbers o.answer).refusal; buffers = o.buffers; sections = count_left o.answer sections; tail = tail_left o.answer tail })

-- A mode that is not known is refused first, by a number of our own, and no slice changes.
abbrev pub in_mode : Bool → Buffers → List ℕ → List Float → Outcome Built → CurveAcross
in_mode is_unknown b sections tail o =
    cond is_unknown (record { refusal = number SplitUnknown; buffers = b; sections = sections; tail = tail }) (curve_across b sections tail o)

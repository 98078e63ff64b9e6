-- 01, Queries, settings and growth. 02, K7: an answer comes with its mark.
use Prim.Native.Nat as nat
use Rattle.std.specs.Prelude.{ℕ, suc, ◌+◌, ◌-◌, ◌*◌, Bool, false, cond, not, ◌&&◌, ◌||◌, List, [], ◌∷◌, ◌++◌, ltb, Float, length, Result, Ok, Err, Option, Some, None}
use Rattle.std.specs.Float.Ieee.{lt, le, ne}
use Rattle.numbers.specs.Marks.{mark}
use Rattle.numbers.specs.Words.{zero}
use Rattle.section.specs.EverywhereConstant as constant
use Rattle.section.specs.declared.section.Section.{Section}
use Rattle.section.specs.declared.section.Section.TheVariants as kind
use Rattle.record.specs.Reading.{record_at}
use Rattle.refusal.specs.Refusal.{Test, ◌⇒◌, first, number, Verdict}
use Rattle.numbers.specs.Sizes.{slot_count}
use Rattle.numbers.specs.declared.Marked.{Marked}
use Rattle.refusal.specs.declared.Refusal.{Refusal}
use Rattle.refusal.specs.declared.Refusal.TheVariants.{TooFewPoints, KnotNotFinite, KnotsNotRising, TooManyPoints, BufferTooShort, QueryNotANumber, QueryOutside, RecordNotLegal, NotFinite}
use Rattle.table.specs.Check.{all_finite, rising}
use Rattle.table.specs.Table.{at}
use Rattle.curve.specs.declared.curve.Curve.{Curve}
use Rattle.query.specs.declared.answer.AnswerInNumbers.{AnswerInNumbers}

-- the section that answers a query, or why there is none: the code goes from the slots of a record straight to the number
abbrev pub Covered : Type 0
Covered = Result Section Refusal

-- what a query answers: a number with the mark whether it is finite, or the first refusal of those that come before that
abbrev pub QueryAnswer : Type 0
QueryAnswer = Result Marked Refusal

-- a query reads the tail and whether it may leave the knots, and no more
abbrev pub curve_with : Float → Float → Float → Bool → Curve
curve_with value total from allow = record { sections = 0; held = false; extrapolates = allow; tail = record { value = value; total = total; from = from } }

-- inside the knots, or allowed outside them
abbrev pub outside : List Float → Curve → Float → Bool
outside x curve q = not curve.extrapolates && not (le (at x 0) q && le q (at x (length x - 1)))

-- of the curve, 4, 5, 7, 10, 11
abbrev pub curve_tests : List Float → ℕ → ℕ → List Test
curve_tests x tags slots =
    (ltb (length x) 2 ⇒ TooFewPoints)
    ∷ (not (all_finite x) ⇒ KnotNotFinite)
    ∷ (not (rising x) ⇒ KnotsNotRising)
    ∷ (ltb 4096 (length x) ⇒ TooManyPoints)
    ∷ (ltb tags (length x - 1) || ltb slots (slot_count * (length x - 1)) ⇒ BufferTooShort)
    ∷ []

-- then of the query, 12, 13
abbrev pub point_tests : List Float → Curve → Float → List Test
point_tests x curve q = (ne q q ⇒ QueryNotANumber) ∷ (outside x curve q ⇒ QueryOutside) ∷ []

abbrev pub query_tests : List Float → Curve → ℕ → ℕ → Float → List Test
query_tests x curve tags slots q = curve_tests x tags slots ++ point_tests x curve q

-- the number of inner knots at or below the query, walked from the first: the section that covers it
unfoldable pub walk : List Float → Float → ℕ → ℕ → ℕ
walk x q i nat.zero = i
walk x q i (suc left) = cond (lt q (at x (i + 1))) i (walk x q (i + 1) left)

abbrev pub place_of : List Float → Float → ℕ
place_of x q = walk x q 0 (length x - 2)

-- the tail's constant section, from the last knot on; else the section read at its place
abbrev pub tail_section : Curve → Section
tail_section curve = kind.EverywhereConstant (constant.new curve.tail.value curve.tail.total curve.tail.from)

unfoldable pub covering : List Float → Curve → List ℕ → List Float → Float → Option Section
unfolding walk
covering x curve tags slots q =
    cond (le (at x (length x - 1)) q) (Some (tail_section curve))
    (record_at tags slots (place_of x q))

-- 15 comes last
abbrev pub covered_of : Verdict → Option Section → Covered
covered_of (Ok tt) (Some s) = Ok s
covered_of (Ok tt) None = Err RecordNotLegal
covered_of (Err r) f = Err r

abbrev pub covered_at : List Float → Curve → List ℕ → List Float → Float → Covered
covered_at x curve tags slots q = covered_of (first (query_tests x curve (length tags) (length slots) q)) (covering x curve tags slots q)

-- what the section that answers gives, with its mark, or the refusal
abbrev pub ask : (Section → Float) → Covered → QueryAnswer
ask f (Ok s) = Ok (mark (f s))
ask f (Err r) = Err r

-- the number by its bits, finite or not
abbrev pub number_in : QueryAnswer → Float
number_in (Ok m) = m.number
number_in (Err r) = zero

-- what refuses an answer: 21 comes after all other refusals
abbrev pub verdict_in : QueryAnswer → Verdict
verdict_in (Ok m) = cond m.finite (Ok tt) (Err NotFinite)
verdict_in (Err r) = Err r

-- the number, or what refuses the answer
abbrev pub finite_by : Verdict → Float → Result Float Refusal
finite_by (Ok tt) v = Ok v
finite_by (Err r) v = Err r

abbrev pub finite_in : QueryAnswer → Result Float Refusal
finite_in k = finite_by (verdict_in k) (number_in k)

-- in the documents' numbers: the refusal's, or 0, with the answer
abbrev pub answer_by : Verdict → Float → AnswerInNumbers
answer_by (Ok tt) v = record { refusal = 0; answer = v }
answer_by (Err r) v = record { refusal = number r; answer = zero }

abbrev pub answer_in_numbers : QueryAnswer → AnswerInNumbers
answer_in_numbers k = answer_by (verdict_in k) (number_in k)

-- 01, Buffers and section records: one section's record, and what it answers by itself. 02, K7: with the marks of its two numbers.
use Rattle.section.specs.declared.section.Section.{Section}
use Rattle.std.specs.Prelude.{ℕ, ◌-◌, ◌*◌, Bool, cond, ◌||◌, List, [], ◌∷◌, ltb, leb, Float, length, get_or, set, Err, None, Ok, Option, Some}
use Rattle.std.specs.Float.{nan}
use Rattle.numbers.specs.OneOutcome.{pair}
use Rattle.numbers.specs.Overlay.{overlay}
use Rattle.numbers.specs.Words.{finite}
use Rattle.section.specs.Section as section
use Rattle.record.specs.Reader.{record_part}
use Rattle.refusal.specs.Refusal as refusal
use Rattle.refusal.specs.Refusal.{Test, ◌⇒◌, first, Verdict}
use Rattle.numbers.specs.Sizes.{slot_count}
use Rattle.refusal.specs.declared.Refusal.TheVariants.{TooFewPoints, TooManyPoints, BufferTooShort, RecordNotLegal}

-- the first n of a list of numbers, written from the start
abbrev pub copied : ℕ → List Float → List Float → List Float
copied n from old = overlay 0 n (λ k. get_or from k nan) old

-- 4, 10, 11 for the slots and for the copy, 15
module _ (points : ℕ) (slots : List Float) (number : ℕ) (into : List Float) where
  abbrev pub copy_tests : List Test
  copy_tests =
      (ltb points 2 ⇒ TooFewPoints)
      ∷ (ltb 4096 points ⇒ TooManyPoints)
      ∷ (ltb (length slots) (slot_count * (points - 1)) || ltb (length into) slot_count ⇒ BufferTooShort)
      ∷ (leb (points - 1) number ⇒ RecordNotLegal)
      ∷ []

  abbrev pub copy_verdict : Verdict
  copy_verdict = first copy_tests

  -- what is said, and what the slice holds: the record's slots from the start, or what it held
  abbrev pub copied_by : Verdict → ℕ × List Float
  copied_by (Ok tt) = pair 0 (copied slot_count (record_part (Ok tt) slots number) into)
  copied_by (Err r) = pair (refusal.number r) into

-- a refusal's number, or 0, and the lent answers and marks as they are left
pub record SectionAnswered : Type 0 where
  pub refusal : ℕ
  pub answer : List Float
  pub finite : List Bool

abbrev pub answered : ℕ → List Float → List Bool → SectionAnswered
answered refusal answer marks = record { refusal = refusal; answer = answer; finite = marks }

-- a record's value and primitive at x, and the node that it ends on, by their bits; and whether the value is finite, and whether the primitive is
abbrev pub section_left : Option Section → Float → List Float → List Bool → SectionAnswered
section_left (Some s) x old marks =
    answered 0
    (set (set (set old 0 (section.value s x)) 1 (section.primitive s x)) 2 (section.f_next s))
    (set (set marks 0 (finite (section.value s x))) 1 (finite (section.primitive s x)))
section_left None x old marks = answered (refusal.number RecordNotLegal) old marks

-- 11 for a short answer or for too few marks, then 15
abbrev pub section_into : Option Section → Float → List Float → List Bool → SectionAnswered
section_into f x old marks =
    cond (ltb (length old) 3 || ltb (length marks) 2) (answered (refusal.number BufferTooShort) old marks) (section_left f x old marks)

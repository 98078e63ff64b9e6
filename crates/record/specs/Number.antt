-- 01, Buffers and section records: the number that a record answers. 02, K7: with its mark.
use Rattle.std.specs.Prelude.{ℕ, cond, Float, Option, Some, None, option_map}
use Rattle.numbers.specs.Marks.{mark}
use Rattle.numbers.specs.declared.Marked.{Marked}
use Rattle.numbers.specs.OneOutcome.{pair}
use Rattle.numbers.specs.Words.{zero}
use Rattle.refusal.specs.Refusal.{number}
use Rattle.refusal.specs.declared.Refusal.TheVariants.{RecordNotLegal, NotFinite}
use Rattle.section.specs.declared.section.Section.{Section}

-- f of the section that was read, where there is one
abbrev pub answer_in : (Section → Float) → Option Section → Option Marked
answer_in f read = option_map (λ s. mark (f s)) read

-- in the documents' numbers: 0 with a finite number, or 15 or 21 with +0.0
abbrev pub answer_in_numbers : Option Marked → ℕ × Float
answer_in_numbers (Some m) = cond m.finite (pair 0 m.number) (pair (number NotFinite) zero)
answer_in_numbers None = pair (number RecordNotLegal) zero

-- by its bits

abbrev pub or_zero : Option Marked → Float
or_zero (Some m) = m.number
or_zero None = zero

-- What is said across the boundary of so many queries: the refusal's number, or 0, and which of them was refused first, beside what the slice of answers
-- holds.
use Rattle.std.specs.Prelude.{ℕ, List, Float}
use Rattle.numbers.specs.OneOutcome.{pair}
use Rattle.query.specs.Many.{many_in_numbers, ManyAnswer}
use Rattle.query.specs.declared.answer.ManyInNumbers.{ManyInNumbers}

abbrev pub numbered : ManyAnswer × List Float → ℕ → ManyInNumbers × List Float
numbered o count = pair (many_in_numbers o.0 count) o.1

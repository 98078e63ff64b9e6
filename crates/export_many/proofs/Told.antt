-- What is said of many queries.
use Prim.Native.Nat.{ℕ}
use mathlib.Core.List.{List}
use mathlib.Core.Path.{◌≡◌, ap, ◌∙◌}
use lib.Ieee.{Float}
use Rattle.numbers.specs.OneOutcome.{pair}
use Rattle.section.specs.declared.section.Section.{Section}
use Rattle.curve.specs.declared.curve.Curve.{Curve}
use Rattle.query.specs.Many.{many_outcome, many_in_numbers, ManyAnswer}
use Rattle.query.specs.declared.answer.ManyInNumbers.{ManyInNumbers}
use Rattle.export_many.specs.Many.{numbered}

-- what the library says and answers, of the curve that crossed
pub many_told : (f : Section → Float → Float) (x : List Float) (j k : Curve) (tags : List ℕ) (slots qs old : List Float) (o : ManyAnswer × List Float) (count : ℕ) (n : ManyInNumbers) → j ≡ k →
    o ≡ many_outcome f x j tags slots qs old → n ≡ many_in_numbers o.0 count → pair n o.1 ≡ numbered (many_outcome f x k tags slots qs old) count
many_told f x j k tags slots qs old o count n e p g =
    ap (λ (m : ManyInNumbers). pair m o.1) g ∙ ap (λ (p : ManyAnswer × List Float). numbered p count) p ∙ ap (λ (c : Curve). numbered (many_outcome f x c tags slots qs old) count) e

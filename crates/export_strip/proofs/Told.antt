-- What is said of strips across the boundary.
use Rattle.std.specs.Prelude.{Err, Ok}
use Prim.Native.Nat.{ℕ}
use mathlib.Core.Bool.{Bool, true, false, cond}
use mathlib.Core.List.{List}
use mathlib.Core.Path.{◌≡◌, sym, ap, ◌∙◌}
use lib.Ieee.{Float}
use lib.ListN.{set}
use Rattle.numbers.specs.OneOutcome.{pair}
use Rattle.refusal.specs.Refusal.{number, Verdict}
use Rattle.refusal.specs.declared.Refusal.{Refusal}
use Rattle.curve.specs.declared.curve.Curve.{Curve}
use Rattle.query.specs.Many.{many_in_numbers, ManyAnswer}
use Rattle.query.specs.Query.{number_in, verdict_in, answer_in_numbers, QueryAnswer}
use Rattle.query.specs.declared.answer.AnswerInNumbers.{AnswerInNumbers}
use Rattle.query.specs.declared.answer.ManyInNumbers.{ManyInNumbers}
use Rattle.export_query.specs.Asking.{left_by}
use Rattle.export_many.specs.Many.{numbered}

-- the library's verdict and answers, of the curve that crossed
pub strips_told : (asked : Curve → ManyAnswer × List Float) (j k : Curve) (o : ManyAnswer × List Float) (m count : ℕ) (n : ManyInNumbers) → j ≡ k → o ≡ asked j →
    m ≡ count → n ≡ many_in_numbers o.0 m → pair n o.1 ≡ numbered (asked k) count
strips_told asked j k o m count n e p f g =
    ap (λ (a : ManyInNumbers). pair a o.1) g
    ∙ ap (λ (i : ℕ). numbered o i) f
    ∙ ap (λ (q : ManyAnswer × List Float). numbered q count) p
    ∙ ap (λ (c : Curve). numbered (asked c) count) e

-- an answer by what refuses it: a refusal leaves the slice, and a number is written
module _ (k : QueryAnswer) (v : Verdict) (old : List Float) (e : v ≡ verdict_in k) where
  pub not_written : (r : Refusal) (n : ℕ) → v ≡ Err r → n ≡ number r → pair n old ≡ left_by k old
  not_written r n f g = rw (sym e ∙ f, g)

  pub written : (price : Float) → v ≡ Ok tt → price ≡ number_in k → pair 0 (set old 0 price) ≡ left_by k old
  written price f g = rw (sym e ∙ f, g)

-- one strip: with no room for its answer only a refusal comes back, and with room the answer is left
module _ (short : Bool) (none asked : QueryAnswer) (old : List Float) where
  pub no_room_lem : short ≡ true → (n : AnswerInNumbers) (k : QueryAnswer) → k ≡ none → n ≡ answer_in_numbers k →
      pair n.refusal old ≡ cond short (pair (answer_in_numbers none).refusal old) (left_by asked old)
  no_room_lem h n k e f = rw (h, f, e)

  pub has_room : short ≡ false → (o : ℕ × List Float) (k : QueryAnswer) → k ≡ asked → o ≡ left_by k old →
      o ≡ cond short (pair (answer_in_numbers none).refusal old) (left_by asked old)
  has_room h o k e f = rw (h, ← e) f

-- What a call answers and leaves, by its verdict, and what an answer says of the verdict.
use Rattle.std.specs.Prelude.{Err, Ok}
use Prim.Native.Nat.{ℕ}
use mathlib.Core.Path.{◌≡◌, sym, ap, ◌∙◌}
use Rattle.refusal.specs.Refusal.{number, verdict_number, Verdict}
use Rattle.refusal.specs.declared.Refusal.{Refusal}
use Rattle.table.specs.Buffers.{Buffers, Outcome, judged}

module _ {A : Type 0} (v : Verdict) (refuse : Refusal → A) (old : Buffers) (new : Outcome A) where
  pub refused : (r : Refusal) → v ≡ Err r → record { answer = refuse r; buffers = old } ≡ judged v refuse old new
  refused r e = rw e

  pub accepted : (o : Outcome A) → v ≡ Ok tt → o ≡ new → o ≡ judged v refuse old new
  accepted o e f = rw e f

-- an answer whose verdict can be read from it
module _ {A : Type 0} (verdict_in : A → Verdict) (v : Verdict) (refuse : Refusal → A) (refuses : (r : Refusal) → verdict_in (refuse r) ≡ Err r) (old : Buffers) (new : Outcome A) (accepts : verdict_in new.answer ≡ Ok tt) where
  judges : (w : Verdict) → verdict_in (judged w refuse old new).answer ≡ w
  judges (Ok tt) = accepts
  judges (Err r) = refuses r

  pub verdict_of_lem : (o : Outcome A) → o ≡ judged v refuse old new → v ≡ verdict_in o.answer
  verdict_of_lem o e = sym (judges v) ∙ ap (λ (p : Outcome A). verdict_in p.answer) (sym e)

  pub was_refused : (o : Outcome A) (r : Refusal) → o ≡ judged v refuse old new → o.answer ≡ refuse r → v ≡ Err r
  was_refused o r e f = verdict_of_lem o e ∙ ap verdict_in f ∙ refuses r

  pub was_accepted : (o : Outcome A) → o ≡ judged v refuse old new → verdict_in o.answer ≡ Ok tt → v ≡ Ok tt
  was_accepted o e f = verdict_of_lem o e ∙ f

-- what a known verdict leaves
module _ {A : Type 0} (v : Verdict) (refuse : Refusal → A) (old : Buffers) (new : Outcome A) (o : Outcome A) where
  pub left_new : o ≡ judged v refuse old new → v ≡ Ok tt → o ≡ new
  left_new e f = e ∙ ap (λ (w : Verdict). judged w refuse old new) f

  pub left_old : (r : Refusal) → o ≡ judged v refuse old new → v ≡ Err r → o ≡ record { answer = refuse r; buffers = old }
  left_old r e f = e ∙ ap (λ (w : Verdict). judged w refuse old new) f

-- an answer that tells its refusal's number, or 0, tells that of the verdict
module _ {A : Type 0} (number_in : A → ℕ) (refuse : Refusal → A) (refuses : (r : Refusal) → number_in (refuse r) ≡ number r) (old : Buffers) (new : Outcome A) (accepts : number_in new.answer ≡ 0) where
  pub number_judged : (v : Verdict) → number_in (judged v refuse old new).answer ≡ verdict_number v
  number_judged (Ok tt) = accepts
  number_judged (Err r) = refuses r

-- Any two outcomes that a contract allows are the same, of each contract as the checker reads it.
use mathlib.Core.Path.{◌∙◌, sym}
use Rattle.numbers.specs.OneOutcome.{OneOutcome, pair}
use Rattle.order.proofs.answer.answer.Reads as answer

pub answer_unique : OneOutcome answer.Post (λ κ r s. let (_, (out, _)) = s in pair r out.now)
answer_unique κ a r₁ r₂ s t p q = p ∙ sym q

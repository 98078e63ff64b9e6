-- Any two outcomes that a contract allows are the same, of each contract as the checker reads it.
use mathlib.Core.Path.{◌∙◌, sym}
use Rattle.numbers.specs.OneOutcome.{OneOutcome, pair}
use Rattle.export_many.proofs.many.havgrunel_values.Reads as havgrunel-values
use Rattle.export_many.proofs.many.havgrunel_primitives.Reads as havgrunel-primitives

pub havgrunel_values_unique : OneOutcome havgrunel-values.Post (λ κ r s. let (_, (_, (_, (_, (_, (_, (_, (_, (answers, _))))))))) = s in pair r answers.now)
havgrunel_values_unique κ a r₁ r₂ s t p q = p ∙ sym q

pub havgrunel_primitives_unique : OneOutcome havgrunel-primitives.Post (λ κ r s. let (_, (_, (_, (_, (_, (_, (_, (_, (answers, _))))))))) = s in pair r answers.now)
havgrunel_primitives_unique κ a r₁ r₂ s t p q = p ∙ sym q

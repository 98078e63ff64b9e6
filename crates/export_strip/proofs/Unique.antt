-- Any two outcomes that a contract allows are the same, of each contract as the checker reads it.
use mathlib.Core.Path.{◌∙◌, sym}
use Rattle.numbers.specs.OneOutcome.{OneOutcome, pair}
use Rattle.export_strip.proofs.asking.havgrunel_strip.Reads as havgrunel-strip
use Rattle.export_strip.proofs.asking.havgrunel_strips.Reads as havgrunel-strips
use Rattle.export_strip.proofs.asking.havgrunel_strip_run.Reads as havgrunel-strip-run
use Rattle.export_strip.proofs.places.havgrunel_strip_between.Reads as havgrunel-strip-between
use Rattle.export_strip.proofs.places.havgrunel_column_entry.Reads as havgrunel-column-entry

pub havgrunel_strip_unique : OneOutcome havgrunel-strip.Post (λ κ r s. let (_, (_, (_, (_, (_, (_, (_, (_, (_, (answer, _)))))))))) = s in pair r answer.now)
havgrunel_strip_unique κ a r₁ r₂ s t p q = p ∙ sym q

pub havgrunel_strips_unique : OneOutcome havgrunel-strips.Post (λ κ r s. let (_, (_, (_, (_, (_, (_, (_, (_, (_, (answers, _)))))))))) = s in pair r answers.now)
havgrunel_strips_unique κ a r₁ r₂ s t p q = p ∙ sym q

pub havgrunel_strip_run_unique : OneOutcome havgrunel-strip-run.Post (λ κ r s. let (_, (_, (_, (_, (_, (_, (_, (_, (answers, _))))))))) = s in pair r answers.now)
havgrunel_strip_run_unique κ a r₁ r₂ s t p q = p ∙ sym q

pub havgrunel_strip_between_unique : OneOutcome havgrunel-strip-between.Post (λ κ r s. let (_, (_, (_, (_, (answer, _))))) = s in pair r answer.now)
havgrunel_strip_between_unique κ a r₁ r₂ s t p q = p ∙ sym q

pub havgrunel_column_entry_unique : OneOutcome havgrunel-column-entry.Post (λ κ r s. let (_, (_, (answer, _))) = s in pair r answer.now)
havgrunel_column_entry_unique κ a r₁ r₂ s t p q = p ∙ sym q

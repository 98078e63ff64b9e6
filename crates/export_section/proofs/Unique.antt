-- Any two outcomes that a contract allows are the same, of each contract as the checker reads it.
use mathlib.Core.Path.{◌∙◌, sym}
use Rattle.numbers.specs.OneOutcome.{OneOutcome, pair}
use Rattle.export_section.specs.Kinds.{across}
use Rattle.export_section.specs.Records.{answered}
use Rattle.export_section.proofs.kinds.havgrunel_everywhere_constant.Reads as havgrunel-everywhere-constant
use Rattle.export_section.proofs.kinds.havgrunel_constant_grad.Reads as havgrunel-constant-grad
use Rattle.export_section.proofs.kinds.havgrunel_convex_monotone2.Reads as havgrunel-convex-monotone2
use Rattle.export_section.proofs.kinds.havgrunel_convex_monotone3.Reads as havgrunel-convex-monotone3
use Rattle.export_section.proofs.kinds.havgrunel_convex_monotone4.Reads as havgrunel-convex-monotone4
use Rattle.export_section.proofs.kinds.havgrunel_convex_monotone4_min.Reads as havgrunel-convex-monotone4-min
use Rattle.export_section.proofs.kinds.havgrunel_convex_monotone4_min_safe.Reads as havgrunel-convex-monotone4-min-safe
use Rattle.export_section.proofs.kinds.havgrunel_quadratic.Reads as havgrunel-quadratic
use Rattle.export_section.proofs.kinds.havgrunel_quadratic_min.Reads as havgrunel-quadratic-min
use Rattle.export_section.proofs.kinds.havgrunel_quadratic_min_careful.Reads as havgrunel-quadratic-min-careful
use Rattle.export_section.proofs.kinds.havgrunel_quadratic_min_safe.Reads as havgrunel-quadratic-min-safe
use Rattle.export_section.proofs.records.havgrunel_record.Reads as havgrunel-record
use Rattle.export_section.proofs.records.havgrunel_section.Reads as havgrunel-section

pub havgrunel_everywhere_constant_unique : OneOutcome havgrunel-everywhere-constant.Post (λ κ r s. let (_, (_, (_, (tag, (slots, _))))) = s in across r tag.now slots.now)
havgrunel_everywhere_constant_unique κ a r₁ r₂ s t p q = p ∙ sym q

pub havgrunel_constant_grad_unique : OneOutcome havgrunel-constant-grad.Post (λ κ r s. let (_, (_, (_, (_, (_, (tag, (slots, _))))))) = s in across r tag.now slots.now)
havgrunel_constant_grad_unique κ a r₁ r₂ s t p q = p ∙ sym q

pub havgrunel_convex_monotone2_unique : OneOutcome havgrunel-convex-monotone2.Post (λ κ r s. let (_, (_, (_, (_, (_, (_, (_, (tag, (slots, _))))))))) = s in across r tag.now slots.now)
havgrunel_convex_monotone2_unique κ a r₁ r₂ s t p q = p ∙ sym q

pub havgrunel_convex_monotone3_unique : OneOutcome havgrunel-convex-monotone3.Post (λ κ r s. let (_, (_, (_, (_, (_, (_, (_, (tag, (slots, _))))))))) = s in across r tag.now slots.now)
havgrunel_convex_monotone3_unique κ a r₁ r₂ s t p q = p ∙ sym q

pub havgrunel_convex_monotone4_unique : OneOutcome havgrunel-convex-monotone4.Post (λ κ r s. let (_, (_, (_, (_, (_, (_, (_, (tag, (slots, _))))))))) = s in across r tag.now slots.now)
havgrunel_convex_monotone4_unique κ a r₁ r₂ s t p q = p ∙ sym q

pub havgrunel_convex_monotone4_min_unique : OneOutcome havgrunel-convex-monotone4-min.Post (λ κ r s. let (_, (_, (_, (_, (_, (_, (_, (tag, (slots, _))))))))) = s in across r tag.now slots.now)
havgrunel_convex_monotone4_min_unique κ a r₁ r₂ s t p q = p ∙ sym q

pub havgrunel_convex_monotone4_min_safe_unique : OneOutcome havgrunel-convex-monotone4-min-safe.Post (λ κ r s. let (_, (_, (_, (_, (_, (_, (_, (tag, (slots, _))))))))) = s in across r tag.now slots.now)
havgrunel_convex_monotone4_min_safe_unique κ a r₁ r₂ s t p q = p ∙ sym q

pub havgrunel_quadratic_unique : OneOutcome havgrunel-quadratic.Post (λ κ r s. let (_, (_, (_, (_, (_, (_, (tag, (slots, _)))))))) = s in across r tag.now slots.now)
havgrunel_quadratic_unique κ a r₁ r₂ s t p q = p ∙ sym q

pub havgrunel_quadratic_min_unique : OneOutcome havgrunel-quadratic-min.Post (λ κ r s. let (_, (_, (_, (_, (_, (_, (tag, (slots, _)))))))) = s in across r tag.now slots.now)
havgrunel_quadratic_min_unique κ a r₁ r₂ s t p q = p ∙ sym q

pub havgrunel_quadratic_min_careful_unique : OneOutcome havgrunel-quadratic-min-careful.Post (λ κ r s. let (_, (_, (_, (_, (_, (_, (tag, (slots, _)))))))) = s in across r tag.now slots.now)
havgrunel_quadratic_min_careful_unique κ a r₁ r₂ s t p q = p ∙ sym q

pub havgrunel_quadratic_min_safe_unique : OneOutcome havgrunel-quadratic-min-safe.Post (λ κ r s. let (_, (_, (_, (_, (_, (_, (tag, (slots, _)))))))) = s in across r tag.now slots.now)
havgrunel_quadratic_min_safe_unique κ a r₁ r₂ s t p q = p ∙ sym q

pub havgrunel_record_unique : OneOutcome havgrunel-record.Post (λ κ r s. let (_, (_, (_, (into, _)))) = s in pair r into.now)
havgrunel_record_unique κ a r₁ r₂ s t p q = p ∙ sym q

pub havgrunel_section_unique : OneOutcome havgrunel-section.Post (λ κ r s. let (_, (_, (_, (answer, (finite, _))))) = s in answered r answer.now finite.now)
havgrunel_section_unique κ a r₁ r₂ s t p q = p ∙ sym q

-- Any two outcomes that a contract allows are the same, of each contract as the checker reads it.
use mathlib.Core.Path.{◌∙◌, sym}
use Rattle.numbers.specs.OneOutcome.{OneAnswer, OneOutcome, pair}
use Rattle.export_query.proofs.asking.havgrunel_value.Reads as havgrunel-value
use Rattle.export_query.proofs.asking.havgrunel_primitive.Reads as havgrunel-primitive
use Rattle.export_query.proofs.asking.havgrunel_derivative.Reads as havgrunel-derivative
use Rattle.export_query.proofs.settings.havgrunel_default_quadraticity.Reads as havgrunel-default-quadraticity
use Rattle.export_query.proofs.settings.havgrunel_default_monotonicity.Reads as havgrunel-default-monotonicity
use Rattle.export_query.proofs.settings.havgrunel_default_positivity.Reads as havgrunel-default-positivity
use Rattle.export_query.proofs.settings.havgrunel_gas_quadraticity.Reads as havgrunel-gas-quadraticity
use Rattle.export_query.proofs.settings.havgrunel_gas_monotonicity.Reads as havgrunel-gas-monotonicity
use Rattle.export_query.proofs.settings.havgrunel_gas_positivity.Reads as havgrunel-gas-positivity
use Rattle.export_query.proofs.square_root.havgrunel_sqrt.Reads as havgrunel-sqrt

pub havgrunel_value_unique : OneOutcome havgrunel-value.Post (λ κ r s. let (_, (_, (_, (_, (_, (_, (_, (_, (answer, _))))))))) = s in pair r answer.now)
havgrunel_value_unique κ a r₁ r₂ s t p q = p ∙ sym q

pub havgrunel_primitive_unique : OneOutcome havgrunel-primitive.Post (λ κ r s. let (_, (_, (_, (_, (_, (_, (_, (_, (answer, _))))))))) = s in pair r answer.now)
havgrunel_primitive_unique κ a r₁ r₂ s t p q = p ∙ sym q

pub havgrunel_derivative_unique : OneAnswer havgrunel-derivative.Post
havgrunel_derivative_unique κ a r₁ r₂ s t p q = p ∙ sym q

pub havgrunel_default_quadraticity_unique : OneAnswer havgrunel-default-quadraticity.Post
havgrunel_default_quadraticity_unique κ a r₁ r₂ s t p q = p ∙ sym q

pub havgrunel_default_monotonicity_unique : OneAnswer havgrunel-default-monotonicity.Post
havgrunel_default_monotonicity_unique κ a r₁ r₂ s t p q = p ∙ sym q

pub havgrunel_default_positivity_unique : OneAnswer havgrunel-default-positivity.Post
havgrunel_default_positivity_unique κ a r₁ r₂ s t p q = p ∙ sym q

pub havgrunel_gas_quadraticity_unique : OneAnswer havgrunel-gas-quadraticity.Post
havgrunel_gas_quadraticity_unique κ a r₁ r₂ s t p q = p ∙ sym q

pub havgrunel_gas_monotonicity_unique : OneAnswer havgrunel-gas-monotonicity.Post
havgrunel_gas_monotonicity_unique κ a r₁ r₂ s t p q = p ∙ sym q

pub havgrunel_gas_positivity_unique : OneAnswer havgrunel-gas-positivity.Post
havgrunel_gas_positivity_unique κ a r₁ r₂ s t p q = p ∙ sym q

pub havgrunel_sqrt_unique : OneAnswer havgrunel-sqrt.Post
havgrunel_sqrt_unique κ a r₁ r₂ s t p q = p ∙ sym q

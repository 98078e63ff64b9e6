-- Any two outcomes that a contract allows are the same, of each contract as the checker reads it.
use mathlib.Core.Path.{◌∙◌, sym}
use Rattle.numbers.specs.OneOutcome.{OneAnswer}
use Rattle.table.proofs.check.all_finite.Reads as all-finite
use Rattle.table.proofs.check.in_unit.Reads as in-unit
use Rattle.table.proofs.check.knots_of.Reads as knots-of
use Rattle.table.proofs.check.table_verdict.Reads as table-verdict
use Rattle.table.proofs.check.seam_too_long.Reads as seam-too-long
use Rattle.table.proofs.check.average_below.Reads as average-below
use Rattle.table.proofs.check.room_verdict.Reads as room-verdict
use Rattle.table.proofs.method.ConvexMonotone.new.Reads as convex-monotone-new
use Rattle.table.proofs.method.ConvexMonotone.with_split.Reads as convex-monotone-with-split
use Rattle.table.proofs.method.ConvexMonotone.is_safe.Reads as convex-monotone-is-safe
use Rattle.table.proofs.method.ConvexMonotone.defaults.Reads as convex-monotone-defaults
use Rattle.table.proofs.method.ConvexMonotone.gas.Reads as convex-monotone-gas

pub all_finite_unique : OneAnswer all-finite.Post
all_finite_unique κ a r₁ r₂ s t p q = p ∙ sym q

pub in_unit_unique : OneAnswer in-unit.Post
in_unit_unique κ a r₁ r₂ s t p q = p ∙ sym q

pub knots_of_unique : OneAnswer knots-of.Post
knots_of_unique κ a r₁ r₂ s t p q = p ∙ sym q

pub table_verdict_unique : OneAnswer table-verdict.Post
table_verdict_unique κ a r₁ r₂ s t p q = p ∙ sym q

pub seam_too_long_unique : OneAnswer seam-too-long.Post
seam_too_long_unique κ a r₁ r₂ s t p q = p ∙ sym q

pub average_below_unique : OneAnswer average-below.Post
average_below_unique κ a r₁ r₂ s t p q = p ∙ sym q

pub room_verdict_unique : OneAnswer room-verdict.Post
room_verdict_unique κ a r₁ r₂ s t p q = p ∙ sym q

pub convex_monotone_new_unique : OneAnswer convex-monotone-new.Post
convex_monotone_new_unique κ a r₁ r₂ s t p q = p ∙ sym q

pub convex_monotone_with_split_unique : OneAnswer convex-monotone-with-split.Post
convex_monotone_with_split_unique κ a r₁ r₂ s t p q = p ∙ sym q

pub convex_monotone_is_safe_unique : OneAnswer convex-monotone-is-safe.Post
convex_monotone_is_safe_unique κ a r₁ r₂ s t p q = p ∙ sym q

pub convex_monotone_defaults_unique : OneAnswer convex-monotone-defaults.Post
convex_monotone_defaults_unique κ a r₁ r₂ s t p q = p ∙ sym q

pub convex_monotone_gas_unique : OneAnswer convex-monotone-gas.Post
convex_monotone_gas_unique κ a r₁ r₂ s t p q = p ∙ sym q

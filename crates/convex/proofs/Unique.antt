-- Any two outcomes that a contract allows are the same, of each contract as the checker reads it.
use mathlib.Core.Path.{◌∙◌, sym}
use Rattle.numbers.specs.OneOutcome.{OneAnswer}
use Rattle.convex.proofs.convex_monotone2.ConvexMonotone2.new.Reads as convex-monotone2-new
use Rattle.convex.proofs.convex_monotone2.ConvexMonotone2.value.Reads as convex-monotone2-value
use Rattle.convex.proofs.convex_monotone2.ConvexMonotone2.primitive.Reads as convex-monotone2-primitive
use Rattle.convex.proofs.convex_monotone2.ConvexMonotone2.f_next.Reads as convex-monotone2-f-next
use Rattle.convex.proofs.convex_monotone3.ConvexMonotone3.new.Reads as convex-monotone3-new
use Rattle.convex.proofs.convex_monotone3.ConvexMonotone3.value.Reads as convex-monotone3-value
use Rattle.convex.proofs.convex_monotone3.ConvexMonotone3.primitive.Reads as convex-monotone3-primitive
use Rattle.convex.proofs.convex_monotone3.ConvexMonotone3.f_next.Reads as convex-monotone3-f-next
use Rattle.convex.proofs.convex_monotone4.ConvexMonotone4.new.Reads as convex-monotone4-new
use Rattle.convex.proofs.convex_monotone4.ConvexMonotone4.value.Reads as convex-monotone4-value
use Rattle.convex.proofs.convex_monotone4.ConvexMonotone4.primitive.Reads as convex-monotone4-primitive
use Rattle.convex.proofs.convex_monotone4.ConvexMonotone4.f_next.Reads as convex-monotone4-f-next
use Rattle.convex.proofs.convex_monotone4_min.ConvexMonotone4Min.new.Reads as convex-monotone4-min-new
use Rattle.convex.proofs.convex_monotone4_min.ConvexMonotone4Min.safe.Reads as convex-monotone4-min-safe
use Rattle.convex.proofs.convex_monotone4_min.ConvexMonotone4Min.in_mode.Reads as convex-monotone4-min-in-mode
use Rattle.convex.proofs.convex_monotone4_min.ConvexMonotone4Min.value.Reads as convex-monotone4-min-value
use Rattle.convex.proofs.convex_monotone4_min.ConvexMonotone4Min.primitive.Reads as convex-monotone4-min-primitive
use Rattle.convex.proofs.convex_monotone4_min.ConvexMonotone4Min.f_next.Reads as convex-monotone4-min-f-next

pub convex_monotone2_new_unique : OneAnswer convex-monotone2-new.Post
convex_monotone2_new_unique κ a r₁ r₂ s t p q = p ∙ sym q

pub convex_monotone2_value_unique : OneAnswer convex-monotone2-value.Post
convex_monotone2_value_unique κ a r₁ r₂ s t p q = p ∙ sym q

pub convex_monotone2_primitive_unique : OneAnswer convex-monotone2-primitive.Post
convex_monotone2_primitive_unique κ a r₁ r₂ s t p q = p ∙ sym q

pub convex_monotone2_f_next_unique : OneAnswer convex-monotone2-f-next.Post
convex_monotone2_f_next_unique κ a r₁ r₂ s t p q = p ∙ sym q

pub convex_monotone3_new_unique : OneAnswer convex-monotone3-new.Post
convex_monotone3_new_unique κ a r₁ r₂ s t p q = p ∙ sym q

pub convex_monotone3_value_unique : OneAnswer convex-monotone3-value.Post
convex_monotone3_value_unique κ a r₁ r₂ s t p q = p ∙ sym q

pub convex_monotone3_primitive_unique : OneAnswer convex-monotone3-primitive.Post
convex_monotone3_primitive_unique κ a r₁ r₂ s t p q = p ∙ sym q

pub convex_monotone3_f_next_unique : OneAnswer convex-monotone3-f-next.Post
convex_monotone3_f_next_unique κ a r₁ r₂ s t p q = p ∙ sym q

pub convex_monotone4_new_unique : OneAnswer convex-monotone4-new.Post
convex_monotone4_new_unique κ a r₁ r₂ s t p q = p ∙ sym q

pub convex_monotone4_value_unique : OneAnswer convex-monotone4-value.Post
convex_monotone4_value_unique κ a r₁ r₂ s t p q = p ∙ sym q

pub convex_monotone4_primitive_unique : OneAnswer convex-monotone4-primitive.Post
convex_monotone4_primitive_unique κ a r₁ r₂ s t p q = p ∙ sym q

pub convex_monotone4_f_next_unique : OneAnswer convex-monotone4-f-next.Post
convex_monotone4_f_next_unique κ a r₁ r₂ s t p q = p ∙ sym q

pub convex_monotone4_min_new_unique : OneAnswer convex-monotone4-min-new.Post
convex_monotone4_min_new_unique κ a r₁ r₂ s t p q = p ∙ sym q

pub convex_monotone4_min_safe_unique : OneAnswer convex-monotone4-min-safe.Post
convex_monotone4_min_safe_unique κ a r₁ r₂ s t p q = p ∙ sym q

pub convex_monotone4_min_in_mode_unique : OneAnswer convex-monotone4-min-in-mode.Post
convex_monotone4_min_in_mode_unique κ a r₁ r₂ s t p q = p ∙ sym q

pub convex_monotone4_min_value_unique : OneAnswer convex-monotone4-min-value.Post
convex_monotone4_min_value_unique κ a r₁ r₂ s t p q = p ∙ sym q

pub convex_monotone4_min_primitive_unique : OneAnswer convex-monotone4-min-primitive.Post
convex_monotone4_min_primitive_unique κ a r₁ r₂ s t p q = p ∙ sym q

pub convex_monotone4_min_f_next_unique : OneAnswer convex-monotone4-min-f-next.Post
convex_monotone4_min_f_next_unique κ a r₁ r₂ s t p q = p ∙ sym q

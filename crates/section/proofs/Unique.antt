-- Any two outcomes that a contract allows are the same, of each contract as the checker reads it.
use mathlib.Core.Path.{◌∙◌, sym}
use Rattle.numbers.specs.OneOutcome.{OneAnswer}
use Rattle.section.proofs.combination.Combination.new.Reads as combination-new
use Rattle.section.proofs.combination.Combination.value.Reads as combination_value
use Rattle.section.proofs.combination.Combination.primitive.Reads as combination_primitive
use Rattle.section.proofs.combination.Combination.f_next.Reads as combination_f_next
use Rattle.section.proofs.constant_grad.ConstantGrad.new.Reads as constant-grad-new
use Rattle.section.proofs.constant_grad.ConstantGrad.value.Reads as constant-grad-value
use Rattle.section.proofs.constant_grad.ConstantGrad.primitive.Reads as constant-grad-primitive
use Rattle.section.proofs.constant_grad.ConstantGrad.f_next.Reads as constant-grad-f-next
use Rattle.section.proofs.convex_monotone_part.ConvexMonotonePart.value.Reads as convex-monotone-part-value
use Rattle.section.proofs.convex_monotone_part.ConvexMonotonePart.primitive.Reads as convex-monotone-part-primitive
use Rattle.section.proofs.convex_monotone_part.ConvexMonotonePart.f_next.Reads as convex-monotone-part-f-next
use Rattle.section.proofs.convex_monotone_part.ConvexMonotonePart.alone.Reads as convex-monotone-part-alone
use Rattle.section.proofs.everywhere_constant.EverywhereConstant.new.Reads as everywhere-constant-new
use Rattle.section.proofs.everywhere_constant.EverywhereConstant.value.Reads as everywhere-constant-value
use Rattle.section.proofs.everywhere_constant.EverywhereConstant.primitive.Reads as everywhere-constant-primitive
use Rattle.section.proofs.everywhere_constant.EverywhereConstant.f_next.Reads as everywhere-constant-f-next
use Rattle.section.proofs.quadratic_part.QuadraticPart.value.Reads as quadratic-part-value
use Rattle.section.proofs.quadratic_part.QuadraticPart.primitive.Reads as quadratic-part-primitive
use Rattle.section.proofs.quadratic_part.QuadraticPart.f_next.Reads as quadratic-part-f-next
use Rattle.section.proofs.quadratic_part.QuadraticPart.alone.Reads as quadratic-part-alone
use Rattle.section.proofs.section.Section.value.Reads as section_value
use Rattle.section.proofs.section.Section.primitive.Reads as section_primitive
use Rattle.section.proofs.section.Section.f_next.Reads as section-f-next

pub combination_new_unique : OneAnswer combination-new.Post
combination_new_unique κ a r₁ r₂ s t p q = p ∙ sym q

pub combination_value_unique : OneAnswer combination_value.Post
combination_value_unique κ a r₁ r₂ s t p q = p ∙ sym q

pub combination_primitive_unique : OneAnswer combination_primitive.Post
combination_primitive_unique κ a r₁ r₂ s t p q = p ∙ sym q

pub combination_f_next_unique : OneAnswer combination_f_next.Post
combination_f_next_unique κ a r₁ r₂ s t p q = p ∙ sym q

pub constant_grad_new_unique : OneAnswer constant-grad-new.Post
constant_grad_new_unique κ a r₁ r₂ s t p q = p ∙ sym q

pub constant_grad_value_unique : OneAnswer constant-grad-value.Post
constant_grad_value_unique κ a r₁ r₂ s t p q = p ∙ sym q

pub constant_grad_primitive_unique : OneAnswer constant-grad-primitive.Post
constant_grad_primitive_unique κ a r₁ r₂ s t p q = p ∙ sym q

pub constant_grad_f_next_unique : OneAnswer constant-grad-f-next.Post
constant_grad_f_next_unique κ a r₁ r₂ s t p q = p ∙ sym q

pub convex_monotone_part_value_unique : OneAnswer convex-monotone-part-value.Post
convex_monotone_part_value_unique κ a r₁ r₂ s t p q = p ∙ sym q

pub convex_monotone_part_primitive_unique : OneAnswer convex-monotone-part-primitive.Post
convex_monotone_part_primitive_unique κ a r₁ r₂ s t p q = p ∙ sym q

pub convex_monotone_part_f_next_unique : OneAnswer convex-monotone-part-f-next.Post
convex_monotone_part_f_next_unique κ a r₁ r₂ s t p q = p ∙ sym q

pub convex_monotone_part_alone_unique : OneAnswer convex-monotone-part-alone.Post
convex_monotone_part_alone_unique κ a r₁ r₂ s t p q = p ∙ sym q

pub everywhere_constant_new_unique : OneAnswer everywhere-constant-new.Post
everywhere_constant_new_unique κ a r₁ r₂ s t p q = p ∙ sym q

pub everywhere_constant_value_unique : OneAnswer everywhere-constant-value.Post
everywhere_constant_value_unique κ a r₁ r₂ s t p q = p ∙ sym q

pub everywhere_constant_primitive_unique : OneAnswer everywhere-constant-primitive.Post
everywhere_constant_primitive_unique κ a r₁ r₂ s t p q = p ∙ sym q

pub everywhere_constant_f_next_unique : OneAnswer everywhere-constant-f-next.Post
everywhere_constant_f_next_unique κ a r₁ r₂ s t p q = p ∙ sym q

pub quadratic_part_value_unique : OneAnswer quadratic-part-value.Post
quadratic_part_value_unique κ a r₁ r₂ s t p q = p ∙ sym q

pub quadratic_part_primitive_unique : OneAnswer quadratic-part-primitive.Post
quadratic_part_primitive_unique κ a r₁ r₂ s t p q = p ∙ sym q

pub quadratic_part_f_next_unique : OneAnswer quadratic-part-f-next.Post
quadratic_part_f_next_unique κ a r₁ r₂ s t p q = p ∙ sym q

pub quadratic_part_alone_unique : OneAnswer quadratic-part-alone.Post
quadratic_part_alone_unique κ a r₁ r₂ s t p q = p ∙ sym q

pub section_value_unique : OneAnswer section_value.Post
section_value_unique κ a r₁ r₂ s t p q = p ∙ sym q

pub section_primitive_unique : OneAnswer section_primitive.Post
section_primitive_unique κ a r₁ r₂ s t p q = p ∙ sym q

pub section_f_next_unique : OneAnswer section-f-next.Post
section_f_next_unique κ a r₁ r₂ s t p q = p ∙ sym q

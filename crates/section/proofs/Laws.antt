-- What the definitions say, as laws over all numbers: NaN, infinities and both zeros included.
use mathlib.Core.Path.{◌≡◌, refl}
use lib.Ieee.{Float}
use Rattle.numbers.specs.Words.{◌⊕◌, ◌⊖◌, ◌⊗◌, one}
use Rattle.section.specs.declared.everywhere_constant.EverywhereConstant.{EverywhereConstant}
use Rattle.section.specs.declared.constant_grad.ConstantGrad.{ConstantGrad}
use Rattle.convex.specs.declared.convex_monotone2.ConvexMonotone2.{ConvexMonotone2}
use Rattle.convex.specs.declared.convex_monotone3.ConvexMonotone3.{ConvexMonotone3}
use Rattle.convex.specs.declared.convex_monotone4.ConvexMonotone4.{ConvexMonotone4}
use Rattle.convex.specs.declared.convex_monotone4_min.ConvexMonotone4Min.{ConvexMonotone4Min}
use Rattle.quadratic.specs.declared.quadratic.Quadratic.{Quadratic}
use Rattle.quadratic.specs.declared.quadratic_min.QuadraticMin.{QuadraticMin}
use Rattle.section.specs.declared.quadratic_part.QuadraticPart.{QuadraticPart}
use Rattle.section.specs.declared.convex_monotone_part.ConvexMonotonePart.{ConvexMonotonePart}
use Rattle.section.specs.declared.combination.Combination.{Combination}
use Rattle.section.specs.declared.section.Section.{Section}
use Rattle.section.specs.declared.section.Section.TheVariants as case
use Rattle.section.specs.EverywhereConstant as constant
use Rattle.section.specs.ConstantGrad as grad
use Rattle.convex.specs.ConvexMonotone2 as cm2
use Rattle.convex.specs.ConvexMonotone3 as cm3
use Rattle.convex.specs.ConvexMonotone4 as cm4
use Rattle.convex.specs.ConvexMonotone4Min as cm4min
use Rattle.quadratic.specs.Quadratic as quadratic
use Rattle.quadratic.specs.QuadraticMin as quadmin
use Rattle.section.specs.QuadraticPart as part
use Rattle.section.specs.ConvexMonotonePart as other
use Rattle.section.specs.Combination as combination
use Rattle.section.specs.Section as section

-- A combination is so much of its quadratic part, and what is left of 1.0 of the other.
module _ (p : QuadraticPart) (q : ConvexMonotonePart) (w : Float) where
  pub combination_value : (x : Float) → combination.value (combination.new p q w) x ≡ w ⊗ part.value p x ⊕ (one ⊖ w) ⊗ other.value q x
  combination_value x = refl

  pub combination_primitive : (x : Float) → combination.primitive (combination.new p q w) x ≡ w ⊗ part.primitive p x ⊕ (one ⊖ w) ⊗ other.primitive q x
  combination_primitive x = refl

  pub combination_f_next : combination.f_next (combination.new p q w) ≡ w ⊗ part.f_next p ⊕ (one ⊖ w) ⊗ other.f_next q
  combination_f_next = refl

-- A section answers as the kind that it holds, and a single part is not weighted.
abbrev Answers : Section → (Float → Float) → (Float → Float) → Float → Type 0
Answers s value primitive next = ((x : Float) → (section.value s x ≡ value x) × (section.primitive s x ≡ primitive x)) × (section.f_next s ≡ next)

pub section_constant : (s : EverywhereConstant) → Answers (case.EverywhereConstant s) (constant.value s) (constant.primitive s) (constant.f_next s)
unfolding section.value section.primitive section.f_next
section_constant s = (λ x. (refl, refl), refl)

pub section_grad : (s : ConstantGrad) → Answers (case.ConstantGrad s) (grad.value s) (grad.primitive s) (grad.f_next s)
unfolding section.value section.primitive section.f_next
section_grad s = (λ x. (refl, refl), refl)

pub section_cm2 : (s : ConvexMonotone2) → Answers (case.ConvexMonotone2 s) (cm2.value s) (cm2.primitive s) (cm2.f_next s)
unfolding section.value section.primitive section.f_next
section_cm2 s = (λ x. (refl, refl), refl)

pub section_cm3 : (s : ConvexMonotone3) → Answers (case.ConvexMonotone3 s) (cm3.value s) (cm3.primitive s) (cm3.f_next s)
unfolding section.value section.primitive section.f_next
section_cm3 s = (λ x. (refl, refl), refl)

pub section_cm4 : (s : ConvexMonotone4) → Answers (case.ConvexMonotone4 s) (cm4.value s) (cm4.primitive s) (cm4.f_next s)
unfolding section.value section.primitive section.f_next
section_cm4 s = (λ x. (refl, refl), refl)

pub section_cm4min : (s : ConvexMonotone4Min) → Answers (case.ConvexMonotone4Min s) (cm4min.value s) (cm4min.primitive s) (cm4min.f_next s)
unfolding section.value section.primitive section.f_next
section_cm4min s = (λ x. (refl, refl), refl)

pub section_quadratic : (s : Quadratic) → Answers (case.Quadratic s) (quadratic.value s) (quadratic.primitive s) (quadratic.f_next s)
unfolding section.value section.primitive section.f_next
section_quadratic s = (λ x. (refl, refl), refl)

pub section_quadmin : (s : QuadraticMin) → Answers (case.QuadraticMin s) (quadmin.value s) (quadmin.primitive s) (quadmin.f_next s)
unfolding section.value section.primitive section.f_next
section_quadmin s = (λ x. (refl, refl), refl)

pub section_combination : (s : Combination) → Answers (case.Combination s) (combination.value s) (combination.primitive s) (combination.f_next s)
unfolding section.value section.primitive section.f_next
section_combination s = (λ x. (refl, refl), refl)

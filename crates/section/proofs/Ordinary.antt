-- A section with fields within 2 ^ 80 and divisors that are at least 2 ^ -40 answers finite numbers anywhere within 2 ^ 80: a price within 2 ^ 1000, and a total
-- within 2 ^ 960.
use lib.Ieee.{Float}
use Rattle.numbers.specs.Words.{◌⊖◌, one}
use Rattle.numbers.proofs.Bounds.{Within, wider, sum_within, difference_within, product_within}
use Rattle.numbers.proofs.Ratios.{half_within, one_within}
use Rattle.convex.proofs.Ordinary.{Second, Third, Fourth, FourthMin, second_value, second_primitive, third_value, third_primitive, fourth_value, fourth_primitive, fourth_min_value, fourth_min_primitive}
use Rattle.quadratic.proofs.Ordinary.{Plain, Min, plain_value, plain_primitive, min_value, min_primitive}
use Rattle.section.specs.declared.everywhere_constant.EverywhereConstant.{EverywhereConstant}
use Rattle.section.specs.declared.constant_grad.ConstantGrad.{ConstantGrad}
use Rattle.section.specs.declared.quadratic_part.QuadraticPart.{QuadraticPart}
use Rattle.section.specs.declared.quadratic_part.QuadraticPart.TheVariants as quadratic
use Rattle.section.specs.declared.convex_monotone_part.ConvexMonotonePart.{ConvexMonotonePart}
use Rattle.section.specs.declared.convex_monotone_part.ConvexMonotonePart.TheVariants as convex
use Rattle.section.specs.declared.combination.Combination.{Combination}
use Rattle.section.specs.declared.section.Section.{Section}
use Rattle.section.specs.declared.section.Section.TheVariants as case
use Rattle.section.specs.EverywhereConstant as constant
use Rattle.section.specs.ConstantGrad as grad
use Rattle.section.specs.QuadraticPart as part
use Rattle.section.specs.ConvexMonotonePart as other
use Rattle.section.specs.Combination as combination
use Rattle.section.specs.Section.{value, primitive}

-- ---- the kinds that need no divisor
pub record Constant (s : EverywhereConstant) : Type 0 where
  pub held : Within 80 s.value
  pub total : Within 80 s.prev_primitive
  pub start : Within 80 s.x_prev

pub record Gradient (s : ConstantGrad) : Type 0 where
  pub height : Within 80 s.f_prev
  pub total : Within 80 s.prev_primitive
  pub start : Within 80 s.x_prev
  pub slope : Within 80 s.f_grad

module _ (s : EverywhereConstant) (o : Constant s) {x : Float} (wx : Within 80 x) where
  pub constant_value : Within 80 (constant.value s x)
  constant_value = o.held

  pub constant_primitive : Within 960 (constant.primitive s x)
  constant_primitive = wider (sum_within o.total (product_within (difference_within wx o.start tt) o.held tt) tt) tt

module _ (s : ConstantGrad) (o : Gradient s) {x : Float} (wx : Within 80 x) where
  gradient_value : Within 1000 (grad.value s x)
  gradient_value = wider (sum_within o.height (product_within (difference_within wx o.start tt) o.slope tt) tt) tt

  gradient_primitive : Within 960 (grad.primitive s x)
  gradient_primitive =
      let far = difference_within wx o.start tt in
      let mean = sum_within o.height (product_within (product_within half_within far tt) o.slope tt) tt in
      wider (sum_within o.total (product_within far mean tt) tt) tt

-- ---- the two parts of a combination
abbrev pub OrdinaryQuadratic : QuadraticPart → Type 0
OrdinaryQuadratic (quadratic.Quadratic s) = Plain s
OrdinaryQuadratic (quadratic.QuadraticMin s) = Min s

abbrev pub OrdinaryConvex : ConvexMonotonePart → Type 0
OrdinaryConvex (convex.ConvexMonotone2 s) = Second s
OrdinaryConvex (convex.ConvexMonotone3 s) = Third s
OrdinaryConvex (convex.ConvexMonotone4 s) = Fourth s
OrdinaryConvex (convex.ConvexMonotone4Min s) = FourthMin s

pub record Combined (s : Combination) : Type 0 where
  pub weight : Within 80 s.quadraticity
  pub quadratic : OrdinaryQuadratic s.quadratic_helper
  pub convex : OrdinaryConvex s.conv_mono_helper

-- a section of ordinary size
abbrev pub Ordinary : Section → Type 0
Ordinary (case.EverywhereConstant s) = Constant s
Ordinary (case.ConstantGrad s) = Gradient s
Ordinary (case.ConvexMonotone2 s) = Second s
Ordinary (case.ConvexMonotone3 s) = Third s
Ordinary (case.ConvexMonotone4 s) = Fourth s
Ordinary (case.ConvexMonotone4Min s) = FourthMin s
Ordinary (case.Quadratic s) = Plain s
Ordinary (case.QuadraticMin s) = Min s
Ordinary (case.Combination s) = Combined s

module _ {x : Float} (wx : Within 80 x) where
  quadratic_value : (p : QuadraticPart) → OrdinaryQuadratic p → Within 500 (part.value p x)
  unfolding part.value
  quadratic_value (quadratic.Quadratic s) o = plain_value s o wx
  quadratic_value (quadratic.QuadraticMin s) o = min_value s o wx

  quadratic_primitive : (p : QuadraticPart) → OrdinaryQuadratic p → Within 850 (part.primitive p x)
  unfolding part.primitive
  quadratic_primitive (quadratic.Quadratic s) o = plain_primitive s o wx
  quadratic_primitive (quadratic.QuadraticMin s) o = min_primitive s o wx

  convex_value : (p : ConvexMonotonePart) → OrdinaryConvex p → Within 500 (other.value p x)
  unfolding other.value
  convex_value (convex.ConvexMonotone2 s) o = second_value s o wx
  convex_value (convex.ConvexMonotone3 s) o = third_value s o wx
  convex_value (convex.ConvexMonotone4 s) o = fourth_value s o wx
  convex_value (convex.ConvexMonotone4Min s) o = fourth_min_value s o wx

  convex_primitive : (p : ConvexMonotonePart) → OrdinaryConvex p → Within 850 (other.primitive p x)
  unfolding other.primitive
  convex_primitive (convex.ConvexMonotone2 s) o = second_primitive s o wx
  convex_primitive (convex.ConvexMonotone3 s) o = third_primitive s o wx
  convex_primitive (convex.ConvexMonotone4 s) o = fourth_primitive s o wx
  convex_primitive (convex.ConvexMonotone4Min s) o = fourth_min_primitive s o wx

  -- weighed, a price grows by 82 binary places at most, and a total too
  module _ (s : Combination) (o : Combined s) where
    rest : Within 81 (one ⊖ s.quadraticity)
    rest = difference_within one_within o.weight tt

    combined_value : Within 1000 (combination.value s x)
    combined_value =
        wider
        (sum_within (product_within o.weight (quadratic_value s.quadratic_helper o.quadratic) tt)
        (product_within rest (convex_value s.conv_mono_helper o.convex) tt) tt)
        tt

    combined_primitive : Within 960 (combination.primitive s x)
    combined_primitive =
        wider
        (sum_within (product_within o.weight (quadratic_primitive s.quadratic_helper o.quadratic) tt)
        (product_within rest (convex_primitive s.conv_mono_helper o.convex) tt) tt)
        tt

  pub section_value : (s : Section) → Ordinary s → Within 1000 (value s x)
  unfolding value
  section_value (case.EverywhereConstant s) o = wider (constant_value s o wx) tt
  section_value (case.ConstantGrad s) o = gradient_value s o wx
  section_value (case.ConvexMonotone2 s) o = wider (second_value s o wx) tt
  section_value (case.ConvexMonotone3 s) o = wider (third_value s o wx) tt
  section_value (case.ConvexMonotone4 s) o = wider (fourth_value s o wx) tt
  section_value (case.ConvexMonotone4Min s) o = wider (fourth_min_value s o wx) tt
  section_value (case.Quadratic s) o = wider (plain_value s o wx) tt
  section_value (case.QuadraticMin s) o = wider (min_value s o wx) tt
  section_value (case.Combination s) o = combined_value s o

  pub section_primitive : (s : Section) → Ordinary s → Within 960 (primitive s x)
  unfolding primitive
  section_primitive (case.EverywhereConstant s) o = constant_primitive s o wx
  section_primitive (case.ConstantGrad s) o = gradient_primitive s o wx
  section_primitive (case.ConvexMonotone2 s) o = wider (second_primitive s o wx) tt
  section_primitive (case.ConvexMonotone3 s) o = wider (third_primitive s o wx) tt
  section_primitive (case.ConvexMonotone4 s) o = wider (fourth_primitive s o wx) tt
  section_primitive (case.ConvexMonotone4Min s) o = wider (fourth_min_primitive s o wx) tt
  section_primitive (case.Quadratic s) o = wider (plain_primitive s o wx) tt
  section_primitive (case.QuadraticMin s) o = wider (min_primitive s o wx) tt
  section_primitive (case.Combination s) o = combined_primitive s o

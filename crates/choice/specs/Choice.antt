-- 01, Choosing a section. Our own: a period that traded at 0, in the safe mode.
use Rattle.std.specs.Prelude.{Bool, ◌&&◌, Float}
use Rattle.std.proofs.Math.Bool.{cond}
use Rattle.std.specs.Float.Ieee.{lt, eq}
use Rattle.numbers.specs.Words.{◌⊖◌, zero, one}
use Rattle.section.specs.declared.quadratic_part.QuadraticPart.{QuadraticPart}
use Rattle.section.specs.declared.section.Section.{Section}
use Rattle.section.specs.declared.section.Section.TheVariants as section
use Rattle.section.specs.ConstantGrad as grad
use Rattle.section.specs.EverywhereConstant as constant
use Rattle.section.specs.Combination as combination
use Rattle.table.specs.Method.{safely}
use Rattle.table.specs.declared.method.ConvexMonotone.{ConvexMonotone}
use Rattle.choice.specs.declared.period.Period.{Period}
use Rattle.choice.specs.Regions.{flat, in_first}
use Rattle.section.specs.QuadraticPart as quadratic
use Rattle.choice.specs.QuadraticPart.{made, quadratic_part}
use Rattle.section.specs.ConvexMonotonePart as convex
use Rattle.choice.specs.ConvexPart.{convex_part}

module _ (method : ConvexMonotone) (period : Period) (P N : Float) where
  open method use {quadraticity, force_positive, split}

  -- step 3, the first region: with no quadratic part from step 2 it is made here
  unfoldable pub first_region : QuadraticPart
  first_region = cond (lt zero quadraticity) (quadratic_part method period P N) (made period split force_positive)

  -- step 4 outside the first region: two parts, or the one
  unfoldable pub mixed : Section
  mixed =
      cond (lt zero quadraticity)
      (section.Combination (combination.new (quadratic_part method period P N) (convex_part method period P N) quadraticity))
      (convex.alone (convex_part method period P N))

  -- steps 2 to 4. Every build refuses a quadraticity outside [0, 1], so the original has no answer there to match.
  unfoldable pub shaped : Section
  shaped =
      cond (lt quadraticity one)
      (cond (in_first P N) (quadratic.alone first_region) mixed)
      (quadratic.alone (quadratic_part method period P N))

module _ (method : ConvexMonotone) (period : Period) where
  open period use {x_prev, x_next, f_prev, f_next, f_average, prev_primitive}

  abbrev P : Float
  P = f_prev ⊖ f_average

  abbrev N : Float
  N = f_next ⊖ f_average

  -- step 1, then the others
  unfoldable pub by_steps : Section
  by_steps =
      cond (flat P N)
      (section.ConstantGrad (grad.new f_prev prev_primitive x_prev x_next f_next))
      (shaped method period P N)

  -- in the safe mode a period that traded at 0 is 0 everywhere: nothing else at or above 0 has that average
  abbrev pub at_zero : Bool
  at_zero = safely method && eq f_average zero

  unfoldable pub section_of : Section
  unfolding by_steps
  section_of = cond at_zero (section.EverywhereConstant (constant.new zero prev_primitive x_prev)) by_steps

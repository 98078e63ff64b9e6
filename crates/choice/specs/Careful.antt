-- 02, K3: the words in which `proofs/Careful.antt` says what a section in careful mode is.
use Rattle.std.specs.Prelude.{Bool, cond, Float}
use Rattle.std.proofs.Math.Bool.{true}
use Rattle.std.specs.Float.Ieee.{le}
use Rattle.quadratic.specs.QuadraticMin as quadmin
use Rattle.quadratic.specs.declared.quadratic_min.QuadraticMin.{QuadraticMin}
use Rattle.section.specs.Combination as combination
use Rattle.section.specs.declared.quadratic_part.QuadraticPart.{QuadraticPart}
use Rattle.section.specs.declared.quadratic_part.QuadraticPart.TheVariants as part
use Rattle.section.specs.declared.section.Section.{Section}
use Rattle.section.specs.declared.section.Section.TheVariants as section
use Rattle.choice.specs.declared.period.Period.{Period}

-- a period's section with its Min parabola not split, by itself or in a combination
module _ (period : Period) where
  open period use {x_prev, x_next, f_prev, f_next, f_average, prev_primitive}

  abbrev pub whole_min : QuadraticMin
  whole_min = quadmin.unsplit x_prev x_next f_prev f_next f_average prev_primitive

  unfoldable pub whole_part : QuadraticPart → QuadraticPart
  whole_part (part.Quadratic s) = part.Quadratic s
  whole_part (part.QuadraticMin s) = part.QuadraticMin whole_min

  unfoldable pub whole_section : Section → Section
  unfolding whole_part
  whole_section (section.EverywhereConstant s) = section.EverywhereConstant s
  whole_section (section.ConstantGrad s) = section.ConstantGrad s
  whole_section (section.ConvexMonotone2 s) = section.ConvexMonotone2 s
  whole_section (section.ConvexMonotone3 s) = section.ConvexMonotone3 s
  whole_section (section.ConvexMonotone4 s) = section.ConvexMonotone4 s
  whole_section (section.ConvexMonotone4Min s) = section.ConvexMonotone4Min s
  whole_section (section.Quadratic s) = section.Quadratic s
  whole_section (section.QuadraticMin s) = section.QuadraticMin whole_min
  whole_section (section.Combination s) = section.Combination (combination.new (whole_part s.quadratic_helper) s.conv_mono_helper s.quadraticity)

-- a Min parabola is not split, or no longer than this length; of a section, where it has one
module _ (length : Float) where
  unfoldable pub min_within : QuadraticMin → Bool
  min_within s = cond s.split_region (le s.x_scaling length) true

  unfoldable pub part_within : QuadraticPart → Bool
  unfolding min_within
  part_within (part.Quadratic s) = true
  part_within (part.QuadraticMin s) = min_within s

  unfoldable pub within : Section → Bool
  unfolding min_within part_within
  within (section.EverywhereConstant s) = true
  within (section.ConstantGrad s) = true
  within (section.ConvexMonotone2 s) = true
  within (section.ConvexMonotone3 s) = true
  within (section.ConvexMonotone4 s) = true
  within (section.ConvexMonotone4Min s) = true
  within (section.Quadratic s) = true
  within (section.QuadraticMin s) = min_within s
  within (section.Combination s) = part_within s.quadratic_helper

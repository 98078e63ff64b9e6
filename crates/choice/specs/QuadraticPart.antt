-- 01, Choosing a section: step 2. 02, K3: the settings say by which rule the Min kind is split.
use Rattle.std.specs.Prelude.{Bool, cond, ◌&&◌, Float}
use Rattle.section.specs.declared.quadratic_part.QuadraticPart.{QuadraticPart}
use Rattle.section.specs.declared.quadratic_part.QuadraticPart.TheVariants as part
use Rattle.quadratic.specs.Quadratic as quadratic
use Rattle.quadratic.specs.QuadraticMin as quadmin
use Rattle.quadratic.specs.declared.quadratic_min.QuadraticMin.{QuadraticMin}
use Rattle.table.specs.declared.method.ConvexMonotone.{ConvexMonotone}
use Rattle.table.specs.declared.method.Split.{Split}
use Rattle.table.specs.declared.method.Split.TheVariants as split
use Rattle.choice.specs.declared.period.Period.{Period}
use Rattle.choice.specs.Regions.{min_fits}

module _ (period : Period) where
  open period use {x_prev, x_next, f_prev, f_next, f_average, prev_primitive}

  abbrev pub min_of : Split → QuadraticMin
  min_of split.Original = quadmin.new x_prev x_next f_prev f_next f_average prev_primitive
  min_of split.Careful = quadmin.careful x_prev x_next f_prev f_next f_average prev_primitive
  min_of split.Safe = quadmin.safe x_prev x_next f_prev f_next f_average prev_primitive

  -- of the Min kind or the plain one
  unfoldable pub made : Split → Bool → QuadraticPart
  made mode min =
      cond min
      (part.QuadraticMin (min_of mode))
      (part.Quadratic (quadratic.new x_prev x_next f_prev f_next f_average prev_primitive))

unfoldable pub min_kind : ConvexMonotone → Float → Float → Bool
min_kind method P N = method.force_positive && min_fits P N

abbrev pub quadratic_part : ConvexMonotone → Period → Float → Float → QuadraticPart
quadratic_part method period P N = made period method.split (min_kind method P N)

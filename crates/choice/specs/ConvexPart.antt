-- 01, Choosing a section: step 3 outside the first region. Our own: the fourth kind in the safe mode.
use Rattle.std.specs.Prelude.{cond, Float}
use Rattle.std.specs.Float.Ieee.{lt}
use Rattle.numbers.specs.Words.{◌⊕◌, ◌⊖◌, ◌⊗◌, ◌⊘◌, one, two, three}
use Rattle.convex.specs.declared.convex_monotone4_min.ConvexMonotone4Min.{ConvexMonotone4Min}
use Rattle.section.specs.declared.convex_monotone_part.ConvexMonotonePart.{ConvexMonotonePart}
use Rattle.section.specs.declared.convex_monotone_part.ConvexMonotonePart.TheVariants as part
use Rattle.convex.specs.ConvexMonotone2 as cm2
use Rattle.convex.specs.ConvexMonotone3 as cm3
use Rattle.convex.specs.ConvexMonotone4 as cm4
use Rattle.convex.specs.ConvexMonotone4Min as cm4min
use Rattle.table.specs.Method.{safely}
use Rattle.table.specs.declared.method.ConvexMonotone.{ConvexMonotone}
use Rattle.choice.specs.declared.period.Period.{Period}
use Rattle.choice.specs.Regions.{in_second, in_third}

-- the bound, where the second number lies above it, or below it; a NaN stays
unfoldable pub at_most : Float → Float → Float
at_most bound eta = cond (lt bound eta) bound eta

unfoldable pub at_least : Float → Float → Float
at_least bound eta = cond (lt eta bound) bound eta

abbrev pub b2 : ConvexMonotone → Float
b2 method = (one ⊕ method.monotonicity) ⊘ two

abbrev pub b3 : ConvexMonotone → Float
b3 method = (one ⊖ method.monotonicity) ⊘ two

module _ (method : ConvexMonotone) (period : Period) (P N : Float) where
  open method use {force_positive}
  open period use {x_prev, x_next, f_average, prev_primitive}

  unfoldable pub fourth_min : Float → ConvexMonotone4Min
  fourth_min eta =
      cm4min.in_mode (safely method) x_prev x_next P N f_average eta prev_primitive

  unfoldable pub fourth : Float → ConvexMonotonePart
  fourth eta =
      cond force_positive
      (part.ConvexMonotone4Min (fourth_min eta))
      (part.ConvexMonotone4 (cm4.new x_prev x_next P N f_average eta prev_primitive))

  unfoldable pub second : ConvexMonotonePart
  second =
      let eta = (N ⊕ two ⊗ P) ⊘ (N ⊖ P) in
      cond (lt eta (b2 method)) (part.ConvexMonotone2 (cm2.new x_prev x_next P N f_average eta prev_primitive)) (fourth (b2 method))

  unfoldable pub third : ConvexMonotonePart
  third =
      let eta = N ⊘ (N ⊖ P) ⊗ three in
      cond (lt (b3 method) eta) (part.ConvexMonotone3 (cm3.new x_prev x_next P N f_average eta prev_primitive)) (fourth (b3 method))

  abbrev pub clamped : ConvexMonotonePart
  clamped = fourth (at_least (b3 method) (at_most (b2 method) (N ⊘ (P ⊕ N))))

  unfoldable pub convex_part : ConvexMonotonePart
  convex_part = cond (in_second P N) second (cond (in_third P N) third clamped)

-- Steps of the code, which only the contracts of private functions cite.
use Rattle.std.specs.Prelude.{Bool, true, cond, Float}
use Rattle.std.specs.Float.Ieee.{lt}
use Rattle.numbers.specs.Words.{zero, one}
use Rattle.table.specs.declared.method.ConvexMonotone.{ConvexMonotone}
use Rattle.choice.specs.QuadraticPart.{min_kind}
use Rattle.choice.specs.Regions.{in_first}

-- step 3: the kind in the first region, also where step 2 made no quadratic part
unfoldable pub first_kind : ConvexMonotone → Float → Float → Bool
unfolding min_kind
first_kind method P N = cond (lt zero method.quadraticity) (min_kind method P N) method.force_positive

-- the quadratic part is all of the section, and its kind where it is
unfoldable pub is_alone : ConvexMonotone → Float → Float → Bool
is_alone method P N = cond (lt method.quadraticity one) (in_first P N) true

unfoldable pub alone_kind : ConvexMonotone → Float → Float → Bool
unfolding first_kind
alone_kind method P N = cond (lt method.quadraticity one) (first_kind method P N) (min_kind method P N)

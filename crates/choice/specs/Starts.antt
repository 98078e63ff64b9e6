-- 02, K1: whether a section is split, and whether unusually; and the total that any other gives back at its own left knot.
use Rattle.std.specs.Prelude.{Bool, true, false, ◌&&◌, ◌||◌, Float}
use Rattle.std.specs.Float.Ieee.{lt}
use Rattle.numbers.specs.Words.{◌⊕◌, ◌⊖◌, ◌⊗◌, zero, one}
use Rattle.quadratic.specs.QuadraticMin as quadmin
use Rattle.convex.specs.ConvexMonotone4Min as cm4min
use Rattle.section.specs.Combination as combination
use Rattle.section.specs.declared.quadratic_part.QuadraticPart.{QuadraticPart}
use Rattle.section.specs.declared.quadratic_part.QuadraticPart.TheVariants as quadratic
use Rattle.section.specs.declared.convex_monotone_part.ConvexMonotonePart.{ConvexMonotonePart}
use Rattle.section.specs.declared.convex_monotone_part.ConvexMonotonePart.TheVariants as convex
use Rattle.section.specs.declared.section.Section.{Section}
use Rattle.section.specs.declared.section.Section.TheVariants as section
use Rattle.table.specs.declared.method.ConvexMonotone.{ConvexMonotone}

-- a Min kind in it is split
abbrev pub quadratic_split : QuadraticPart → Bool
quadratic_split (quadratic.Quadratic s) = false
quadratic_split (quadratic.QuadraticMin s) = s.split_region

abbrev pub convex_split : ConvexMonotonePart → Bool
convex_split (convex.ConvexMonotone2 s) = false
convex_split (convex.ConvexMonotone3 s) = false
convex_split (convex.ConvexMonotone4 s) = false
convex_split (convex.ConvexMonotone4Min s) = s.split_region

abbrev pub split_in : Section → Bool
split_in (section.EverywhereConstant s) = false
split_in (section.ConstantGrad s) = false
split_in (section.ConvexMonotone2 s) = false
split_in (section.ConvexMonotone3 s) = false
split_in (section.ConvexMonotone4 s) = false
split_in (section.ConvexMonotone4Min s) = s.split_region
split_in (section.Quadratic s) = false
split_in (section.QuadraticMin s) = s.split_region
split_in (section.Combination s) = quadratic_split s.quadratic_helper || convex_split s.conv_mono_helper

-- a Min kind in it is split, but not in the usual way at x
abbrev pub quadratic_unusual : Float → QuadraticPart → Bool
quadratic_unusual x (quadratic.Quadratic s) = false
quadratic_unusual x (quadratic.QuadraticMin s) = quadmin.unusual s x

abbrev pub convex_unusual : Float → ConvexMonotonePart → Bool
convex_unusual x (convex.ConvexMonotone2 s) = false
convex_unusual x (convex.ConvexMonotone3 s) = false
convex_unusual x (convex.ConvexMonotone4 s) = false
convex_unusual x (convex.ConvexMonotone4Min s) = cm4min.unusual s x

abbrev pub unusual_in : Float → Section → Bool
unusual_in x (section.EverywhereConstant s) = false
unusual_in x (section.ConstantGrad s) = false
unusual_in x (section.ConvexMonotone2 s) = false
unusual_in x (section.ConvexMonotone3 s) = false
unusual_in x (section.ConvexMonotone4 s) = false
unusual_in x (section.ConvexMonotone4Min s) = cm4min.unusual s x
unusual_in x (section.Quadratic s) = false
unusual_in x (section.QuadraticMin s) = quadmin.unusual s x
unusual_in x (section.Combination s) = quadratic_unusual x s.quadratic_helper || convex_unusual x s.conv_mono_helper

-- the total that it was handed; a combination weighs it against itself, and that rounds
abbrev pub start_of : Float → Section → Float
start_of total (section.EverywhereConstant s) = total
start_of total (section.ConstantGrad s) = total
start_of total (section.ConvexMonotone2 s) = total
start_of total (section.ConvexMonotone3 s) = total
start_of total (section.ConvexMonotone4 s) = total
start_of total (section.ConvexMonotone4Min s) = total
start_of total (section.Quadratic s) = total
start_of total (section.QuadraticMin s) = total
start_of total (section.Combination s) = combination.weighted s total total

-- it has two parts
abbrev pub mixed_in : Section → Bool
mixed_in (section.EverywhereConstant s) = false
mixed_in (section.ConstantGrad s) = false
mixed_in (section.ConvexMonotone2 s) = false
mixed_in (section.ConvexMonotone3 s) = false
mixed_in (section.ConvexMonotone4 s) = false
mixed_in (section.ConvexMonotone4Min s) = false
mixed_in (section.Quadratic s) = false
mixed_in (section.QuadraticMin s) = false
mixed_in (section.Combination s) = true

-- the settings make sections of two parts, and a total that they weigh against itself
abbrev pub mixing : ConvexMonotone → Bool
mixing method = lt zero method.quadraticity && lt method.quadraticity one

abbrev pub weighed : ConvexMonotone → Float → Float
weighed method total = method.quadraticity ⊗ total ⊕ (one ⊖ method.quadraticity) ⊗ total

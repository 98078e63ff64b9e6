-- 02, K9: the total that a section starts from. Every kind keeps it as it was handed over, and a combination keeps it in both parts.
use Rattle.std.specs.Prelude.{◌≡◌, Float}
use Rattle.section.specs.declared.quadratic_part.QuadraticPart.{QuadraticPart}
use Rattle.section.specs.declared.quadratic_part.QuadraticPart.TheVariants as quadratic
use Rattle.section.specs.declared.convex_monotone_part.ConvexMonotonePart.{ConvexMonotonePart}
use Rattle.section.specs.declared.convex_monotone_part.ConvexMonotonePart.TheVariants as convex
use Rattle.section.specs.declared.section.Section.{Section}
use Rattle.section.specs.declared.section.Section.TheVariants as section

abbrev pub QuadraticStarts : Float → QuadraticPart → Type 0
QuadraticStarts total (quadratic.Quadratic s) = s.prev_primitive ≡ total
QuadraticStarts total (quadratic.QuadraticMin s) = s.primitive1 ≡ total

abbrev pub ConvexStarts : Float → ConvexMonotonePart → Type 0
ConvexStarts total (convex.ConvexMonotone2 s) = s.prev_primitive ≡ total
ConvexStarts total (convex.ConvexMonotone3 s) = s.prev_primitive ≡ total
ConvexStarts total (convex.ConvexMonotone4 s) = s.prev_primitive ≡ total
ConvexStarts total (convex.ConvexMonotone4Min s) = s.base.prev_primitive ≡ total

abbrev pub StartsFrom : Float → Section → Type 0
StartsFrom total (section.EverywhereConstant s) = s.prev_primitive ≡ total
StartsFrom total (section.ConstantGrad s) = s.prev_primitive ≡ total
StartsFrom total (section.ConvexMonotone2 s) = ConvexStarts total (convex.ConvexMonotone2 s)
StartsFrom total (section.ConvexMonotone3 s) = ConvexStarts total (convex.ConvexMonotone3 s)
StartsFrom total (section.ConvexMonotone4 s) = ConvexStarts total (convex.ConvexMonotone4 s)
StartsFrom total (section.ConvexMonotone4Min s) = ConvexStarts total (convex.ConvexMonotone4Min s)
StartsFrom total (section.Quadratic s) = QuadraticStarts total (quadratic.Quadratic s)
StartsFrom total (section.QuadraticMin s) = QuadraticStarts total (quadratic.QuadraticMin s)
StartsFrom total (section.Combination s) = QuadraticStarts total s.quadratic_helper × ConvexStarts total s.conv_mono_helper

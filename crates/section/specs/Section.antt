-- 000, SectionHelper. 01, Choosing a section: a single part is used as it is.
use Rattle.std.specs.Prelude.{Float}
use Rattle.section.specs.declared.section.Section.{Section}
use Rattle.section.specs.declared.section.Section.TheVariants.{EverywhereConstant, ConstantGrad, ConvexMonotone2, ConvexMonotone3, ConvexMonotone4, ConvexMonotone4Min, Quadratic, QuadraticMin, Combination}
use Rattle.section.specs.EverywhereConstant as constant
use Rattle.section.specs.ConstantGrad as grad
use Rattle.convex.specs.ConvexMonotone2 as cm2
use Rattle.convex.specs.ConvexMonotone3 as cm3
use Rattle.convex.specs.ConvexMonotone4 as cm4
use Rattle.convex.specs.ConvexMonotone4Min as cm4min
use Rattle.quadratic.specs.Quadratic as quadratic
use Rattle.quadratic.specs.QuadraticMin as quadmin
use Rattle.section.specs.Combination as combination

unfoldable pub value : Section → Float → Float
value (EverywhereConstant s) x = constant.value s x
value (ConstantGrad s) x = grad.value s x
value (ConvexMonotone2 s) x = cm2.value s x
value (ConvexMonotone3 s) x = cm3.value s x
value (ConvexMonotone4 s) x = cm4.value s x
value (ConvexMonotone4Min s) x = cm4min.value s x
value (Quadratic s) x = quadratic.value s x
value (QuadraticMin s) x = quadmin.value s x
value (Combination s) x = combination.value s x

unfoldable pub primitive : Section → Float → Float
primitive (EverywhereConstant s) x = constant.primitive s x
primitive (ConstantGrad s) x = grad.primitive s x
primitive (ConvexMonotone2 s) x = cm2.primitive s x
primitive (ConvexMonotone3 s) x = cm3.primitive s x
primitive (ConvexMonotone4 s) x = cm4.primitive s x
primitive (ConvexMonotone4Min s) x = cm4min.primitive s x
primitive (Quadratic s) x = quadratic.primitive s x
primitive (QuadraticMin s) x = quadmin.primitive s x
primitive (Combination s) x = combination.primitive s x

unfoldable pub f_next : Section → Float
f_next (EverywhereConstant s) = constant.f_next s
f_next (ConstantGrad s) = grad.f_next s
f_next (ConvexMonotone2 s) = cm2.f_next s
f_next (ConvexMonotone3 s) = cm3.f_next s
f_next (ConvexMonotone4 s) = cm4.f_next s
f_next (ConvexMonotone4Min s) = cm4min.f_next s
f_next (Quadratic s) = quadratic.f_next s
f_next (QuadraticMin s) = quadmin.f_next s
f_next (Combination s) = combination.f_next s

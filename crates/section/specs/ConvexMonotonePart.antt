-- 01, Buffers and section records: the other part, where there is a quadratic one
use Rattle.std.specs.Prelude.{Float}
use Rattle.section.specs.declared.convex_monotone_part.ConvexMonotonePart.{ConvexMonotonePart}
use Rattle.section.specs.declared.convex_monotone_part.ConvexMonotonePart.TheVariants.{ConvexMonotone2, ConvexMonotone3, ConvexMonotone4, ConvexMonotone4Min}
use Rattle.section.specs.declared.section.Section.{Section}
use Rattle.section.specs.declared.section.Section.TheVariants as section
use Rattle.convex.specs.ConvexMonotone2 as cm2
use Rattle.convex.specs.ConvexMonotone3 as cm3
use Rattle.convex.specs.ConvexMonotone4 as cm4
use Rattle.convex.specs.ConvexMonotone4Min as cm4min

unfoldable pub value : ConvexMonotonePart → Float → Float
value (ConvexMonotone2 s) x = cm2.value s x
value (ConvexMonotone3 s) x = cm3.value s x
value (ConvexMonotone4 s) x = cm4.value s x
value (ConvexMonotone4Min s) x = cm4min.value s x

unfoldable pub primitive : ConvexMonotonePart → Float → Float
primitive (ConvexMonotone2 s) x = cm2.primitive s x
primitive (ConvexMonotone3 s) x = cm3.primitive s x
primitive (ConvexMonotone4 s) x = cm4.primitive s x
primitive (ConvexMonotone4Min s) x = cm4min.primitive s x

unfoldable pub f_next : ConvexMonotonePart → Float
f_next (ConvexMonotone2 s) = cm2.f_next s
f_next (ConvexMonotone3 s) = cm3.f_next s
f_next (ConvexMonotone4 s) = cm4.f_next s
f_next (ConvexMonotone4Min s) = cm4min.f_next s

-- a single part is the section as it is
abbrev pub alone : ConvexMonotonePart → Section
alone (ConvexMonotone2 s) = section.ConvexMonotone2 s
alone (ConvexMonotone3 s) = section.ConvexMonotone3 s
alone (ConvexMonotone4 s) = section.ConvexMonotone4 s
alone (ConvexMonotone4Min s) = section.ConvexMonotone4Min s

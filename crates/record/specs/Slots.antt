-- 01, Buffers and section records: the slots. 02, K9: what the record of a period adds to them.
use Rattle.std.specs.Prelude.{ℕ, List, [], ◌∷◌, ◌++◌, Float, replicate}
use Rattle.numbers.specs.Words.{zero, one}
use Rattle.section.specs.Section.{value}
use Rattle.section.specs.declared.quadratic_part.QuadraticPart.{QuadraticPart}
use Rattle.section.specs.declared.quadratic_part.QuadraticPart.TheVariants as quadratic
use Rattle.section.specs.declared.convex_monotone_part.ConvexMonotonePart.{ConvexMonotonePart}
use Rattle.section.specs.declared.convex_monotone_part.ConvexMonotonePart.TheVariants as convex
use Rattle.section.specs.declared.section.Section.{Section}
use Rattle.section.specs.declared.section.Section.TheVariants as section

-- the weight, 12 slots for the quadratic part, 11 for the other
abbrev pub layout : Float → List Float → List Float → List Float
layout weight quadratic other = weight ∷ (quadratic ++ other)

abbrev pub none : ℕ → List Float
none n = replicate n zero

unfoldable pub quadratic_slots : QuadraticPart → List Float
quadratic_slots (quadratic.Quadratic s) =
    s.x_prev ∷ s.x_scaling ∷ s.a ∷ s.b ∷ s.c ∷ s.f_next ∷ s.prev_primitive ∷ none 5
quadratic_slots (quadratic.QuadraticMin s) =
    s.x1 ∷ s.x2 ∷ s.x3 ∷ s.x4 ∷ s.a ∷ s.b ∷ s.c ∷ s.primitive1 ∷ s.primitive2 ∷ s.f_next ∷ s.x_scaling ∷ s.x_ratio ∷ []

unfoldable pub convex_slots : ConvexMonotonePart → List Float
convex_slots (convex.ConvexMonotone2 s) =
    s.x_prev ∷ s.x_scaling ∷ s.g_prev ∷ s.g_next ∷ s.f_average ∷ s.eta2 ∷ s.prev_primitive ∷ none 4
convex_slots (convex.ConvexMonotone3 s) =
    s.x_prev ∷ s.x_scaling ∷ s.g_prev ∷ s.g_next ∷ s.f_average ∷ s.eta3 ∷ s.prev_primitive ∷ none 4
convex_slots (convex.ConvexMonotone4 s) =
    s.x_prev ∷ s.x_scaling ∷ s.g_prev ∷ s.g_next ∷ s.f_average ∷ s.eta4 ∷ s.prev_primitive ∷ s.a ∷ none 3
convex_slots (convex.ConvexMonotone4Min s) =
    let b = s.base in
    b.x_prev ∷ b.x_scaling ∷ b.g_prev ∷ b.g_next ∷ b.f_average ∷ b.eta4 ∷ b.prev_primitive ∷ b.a ∷ s.x_ratio ∷ s.x2 ∷ s.x3 ∷ []

unfoldable pub slots_of : Section → List Float
unfolding quadratic_slots convex_slots
slots_of (section.EverywhereConstant s) = layout zero (none 12) (s.value ∷ s.prev_primitive ∷ s.x_prev ∷ none 8)
slots_of (section.ConstantGrad s) =
    layout zero (none 12) (s.f_prev ∷ s.prev_primitive ∷ s.x_prev ∷ s.f_grad ∷ s.f_next ∷ none 6)
slots_of (section.ConvexMonotone2 s) = layout zero (none 12) (convex_slots (convex.ConvexMonotone2 s))
slots_of (section.ConvexMonotone3 s) = layout zero (none 12) (convex_slots (convex.ConvexMonotone3 s))
slots_of (section.ConvexMonotone4 s) = layout zero (none 12) (convex_slots (convex.ConvexMonotone4 s))
slots_of (section.ConvexMonotone4Min s) = layout zero (none 12) (convex_slots (convex.ConvexMonotone4Min s))
slots_of (section.Quadratic s) = layout one (quadratic_slots (quadratic.Quadratic s)) (none 11)
slots_of (section.QuadraticMin s) = layout one (quadratic_slots (quadratic.QuadraticMin s)) (none 11)
slots_of (section.Combination s) = layout s.quadraticity (quadratic_slots s.quadratic_helper) (convex_slots s.conv_mono_helper)

-- the record of a period: its section's fields, the section's price at the left knot and at the right one, and the running total after the period
unfoldable pub record_of : Section → Float → Float → Float → List Float
unfolding slots_of
record_of s left right total = slots_of s ++ (value s left ∷ value s right ∷ total ∷ [])

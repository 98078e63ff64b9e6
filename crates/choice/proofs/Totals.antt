-- 02, K9: whatever section is chosen starts from the total before its period, in every mode and for any numbers.
use mathlib.Core.Bool.{Bool, true, false, cond, ◌&&◌}
use mathlib.Core.Path.{◌≡◌, refl}
use lib.Ieee.{Float, lt, le}
use Rattle.numbers.specs.OneOutcome.{Follows}
use Rattle.numbers.specs.Words.{◌⊕◌, ◌⊖◌, ◌⊗◌, ◌⊘◌, zero, one, two, three, narrow}
use Rattle.numbers.proofs.Ways.{of_both}
use Rattle.convex.specs.ConvexMonotone4 as cm4
use Rattle.convex.specs.ConvexMonotone4Min as cm4min
use Rattle.convex.specs.declared.convex_monotone4.ConvexMonotone4.{ConvexMonotone4}
use Rattle.convex.specs.declared.convex_monotone4_min.ConvexMonotone4Min.{ConvexMonotone4Min}
use Rattle.quadratic.specs.QuadraticMin as quadmin
use Rattle.quadratic.specs.declared.quadratic_min.QuadraticMin.{QuadraticMin}
use Rattle.section.specs.ConvexMonotonePart as convex-part
use Rattle.section.specs.QuadraticPart as quadratic-part
use Rattle.section.specs.declared.convex_monotone_part.ConvexMonotonePart.{ConvexMonotonePart}
use Rattle.section.specs.declared.convex_monotone_part.ConvexMonotonePart.TheVariants as convex
use Rattle.section.specs.declared.quadratic_part.QuadraticPart.{QuadraticPart}
use Rattle.section.specs.declared.quadratic_part.QuadraticPart.TheVariants as quadratic
use Rattle.table.specs.Method.{safely}
use Rattle.table.specs.declared.method.ConvexMonotone.{ConvexMonotone}
use Rattle.table.specs.declared.method.Split.{Split}
use Rattle.table.specs.declared.method.Split.TheVariants as split
use Rattle.choice.specs.Choice.{at_zero, section_of, by_steps, shaped, mixed, first_region}
use Rattle.choice.specs.ConvexPart.{b2, b3, fourth_min, fourth, second, third, convex_part}
use Rattle.choice.specs.QuadraticPart.{min_of, made, min_kind, quadratic_part}
use Rattle.choice.specs.Regions.{flat, in_first, in_second, in_third}
use Rattle.choice.specs.Totals.{QuadraticStarts, ConvexStarts, StartsFrom}
use Rattle.choice.specs.declared.period.Period.{Period}
use Rattle.choice.proofs.section_of.Reads as section-of

-- a part by itself keeps what it has in a combination
alone_quadratic : (total : Float) (p : QuadraticPart) → QuadraticStarts total p → StartsFrom total (quadratic-part.alone p)
alone_quadratic total (quadratic.Quadratic s) h = h
alone_quadratic total (quadratic.QuadraticMin s) h = h

alone_convex : (total : Float) (c : ConvexMonotonePart) → ConvexStarts total c → StartsFrom total (convex-part.alone c)
alone_convex total (convex.ConvexMonotone2 s) h = h
alone_convex total (convex.ConvexMonotone3 s) h = h
alone_convex total (convex.ConvexMonotone4 s) h = h
alone_convex total (convex.ConvexMonotone4Min s) h = h

-- a squeezed shape keeps its base's
base_kept : (base : ConvexMonotone4) → (cm4min.of_base base).base.prev_primitive ≡ base.prev_primitive
unfolding cm4min.of_base cm4min.split
base_kept base = of_both (λ (s : ConvexMonotone4Min). s.base.prev_primitive ≡ base.prev_primitive) (le (base.a ⊕ base.f_average) zero) _ _ refl refl

module _ (method : ConvexMonotone) (period : Period) where
  open period use {x_prev, x_next, f_prev, f_next, f_average, prev_primitive}

  -- a parabola that is split, and one that is not
  split_starts : (touching : Float) (whole : QuadraticMin) (b : Bool) → whole.primitive1 ≡ prev_primitive →
      (cond b (quadmin.split x_prev x_next f_prev f_next f_average prev_primitive touching) whole).primitive1 ≡ prev_primitive
  unfolding quadmin.split
  split_starts touching whole true h = refl
  split_starts touching whole false h = h

  min_starts : (mode : Split) → (min_of period mode).primitive1 ≡ prev_primitive
  unfolding quadmin.new quadmin.careful quadmin.safe
  min_starts split.Original = split_starts _ _ (quadmin.splits f_prev f_next f_average) refl
  min_starts split.Careful = split_starts _ _ (quadmin.splits f_prev f_next f_average && quadmin.in_period (f_average ⊘ quadmin.av_root f_prev f_next)) refl
  min_starts split.Safe =
      let ratio = f_average ⊘ quadmin.touching f_prev f_next in
      let Starts : QuadraticMin → Type 0 = λ s. s.primitive1 ≡ prev_primitive in
      of_both Starts (quadmin.splits_safely f_prev f_next f_average) _ _
      (split_starts _ _ (quadmin.in_sight ratio) (of_both Starts (le ratio narrow) _ _ refl refl))
      refl

  made_starts : (min : Bool) → QuadraticStarts prev_primitive (made period method.split min)
  unfolding made
  made_starts min = of_both (QuadraticStarts prev_primitive) min _ _ (min_starts method.split) refl

  module _ (P N : Float) where
    fourth_starts : (eta : Float) → ConvexStarts prev_primitive (fourth method period P N eta)
    unfolding fourth fourth_min cm4min.safe
    fourth_starts eta =
        let Starts : ConvexMonotone4Min → Type 0 = λ s. s.base.prev_primitive ≡ prev_primitive in
        let made = cm4min.new x_prev x_next P N f_average eta prev_primitive in
        let kept = base_kept (cm4.new x_prev x_next P N f_average eta prev_primitive) in
        of_both (ConvexStarts prev_primitive) method.force_positive _ _
        (of_both Starts (safely method) _ _ (of_both Starts (cm4min.squeezed_away made) _ _ refl kept) kept)
        refl

    convex_starts : ConvexStarts prev_primitive (convex_part method period P N)
    unfolding convex_part second third
    convex_starts =
        let Starts = ConvexStarts prev_primitive in
        of_both Starts (in_second P N) _ _
        (of_both Starts (lt ((N ⊕ two ⊗ P) ⊘ (N ⊖ P)) (b2 method)) _ _ refl (fourth_starts _))
        (of_both Starts (in_third P N) _ _ (of_both Starts (lt (b3 method) (N ⊘ (N ⊖ P) ⊗ three)) _ _ refl (fourth_starts _)) (fourth_starts _))

    part_starts : QuadraticStarts prev_primitive (quadratic_part method period P N)
    part_starts = made_starts (min_kind method P N)

    first_starts : QuadraticStarts prev_primitive (first_region method period P N)
    unfolding first_region
    first_starts = of_both (QuadraticStarts prev_primitive) (lt zero method.quadraticity) _ _ part_starts (made_starts method.force_positive)

    mixed_starts : StartsFrom prev_primitive (mixed method period P N)
    unfolding mixed
    mixed_starts =
        of_both (StartsFrom prev_primitive) (lt zero method.quadraticity) _ _ (part_starts, convex_starts)
        (alone_convex prev_primitive (convex_part method period P N) convex_starts)

    shaped_starts : StartsFrom prev_primitive (shaped method period P N)
    unfolding shaped
    shaped_starts =
        let Starts = StartsFrom prev_primitive in
        of_both Starts (lt method.quadraticity one) _ _
        (of_both Starts (in_first P N) _ _ (alone_quadratic prev_primitive (first_region method period P N) first_starts) mixed_starts)
        (alone_quadratic prev_primitive (quadratic_part method period P N) part_starts)

  abbrev P : Float
  P = f_prev ⊖ f_average

  abbrev N : Float
  N = f_next ⊖ f_average

  pub section_starts : StartsFrom prev_primitive (section_of method period)
  unfolding section_of by_steps
  section_starts =
      let Starts = StartsFrom prev_primitive in
      of_both Starts (at_zero method period) _ _ refl (of_both Starts (flat P N) _ _ refl (shaped_starts P N))

-- of `section_of` itself
pub returned_starts : Follows section-of.Post (λ κ a r s. let (method, (period, rest)) = a in StartsFrom period.prev_primitive r)
returned_starts κ a r s allowed = let (method, (period, rest)) = a in rw allowed (section_starts method period)

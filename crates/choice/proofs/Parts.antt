-- Of which parts a chosen section is made: two only where the quadraticity lies strictly between 0 and 1, which is then the weight, and none that is split
-- unless positivity is asked for. What is not split is not split in an unusual way.
use mathlib.Core.Bool.{Bool, true, false, cond, ◌&&◌, ◌||◌}
use mathlib.Core.Path.{◌≡◌, refl}
use lib.Ieee.{Float, lt}
use Rattle.numbers.specs.Words.{◌⊕◌, ◌⊖◌, ◌⊗◌, ◌⊘◌, zero, one, two, three}
use Rattle.numbers.proofs.Ways.{of_both, of_each, or_none}
use Rattle.section.specs.ConvexMonotonePart as convex-part
use Rattle.section.specs.QuadraticPart as quadratic-part
use Rattle.section.specs.declared.convex_monotone_part.ConvexMonotonePart.{ConvexMonotonePart}
use Rattle.section.specs.declared.convex_monotone_part.ConvexMonotonePart.TheVariants as convex
use Rattle.section.specs.declared.quadratic_part.QuadraticPart.{QuadraticPart}
use Rattle.section.specs.declared.quadratic_part.QuadraticPart.TheVariants as quadratic
use Rattle.section.specs.declared.section.Section.{Section}
use Rattle.section.specs.declared.section.Section.TheVariants as section
use Rattle.table.specs.declared.method.ConvexMonotone.{ConvexMonotone}
use Rattle.choice.specs.Choice.{at_zero, section_of, by_steps, shaped, mixed, first_region}
use Rattle.choice.specs.ConvexPart.{b2, b3, fourth, second, third, convex_part}
use Rattle.choice.specs.QuadraticPart.{made, min_kind, quadratic_part}
use Rattle.choice.specs.Regions.{flat, in_first, in_second, in_third}
use Rattle.choice.specs.Starts.{mixed_in, mixing, weighed, quadratic_split, convex_split, split_in, quadratic_unusual, convex_unusual, unusual_in, start_of}
use Rattle.choice.specs.declared.period.Period.{Period}

-- ---- two parts
module _ (method : ConvexMonotone) (total : Float) where
  -- what a section starts from, by whether it has two parts and whether the method makes such
  abbrev pub Weighed : Section → Type 0
  Weighed s = start_of total s ≡ cond (mixing method && mixed_in s) (weighed method total) total

  one_part : (t : Float) (b : Bool) → t ≡ cond (b && false) (weighed method total) t
  one_part t true = refl
  one_part t false = refl

  quadratic_alone : (p : QuadraticPart) → Weighed (quadratic-part.alone p)
  quadratic_alone (quadratic.Quadratic s) = one_part total (mixing method)
  quadratic_alone (quadratic.QuadraticMin s) = one_part total (mixing method)

  convex_alone : (c : ConvexMonotonePart) → Weighed (convex-part.alone c)
  convex_alone (convex.ConvexMonotone2 s) = one_part total (mixing method)
  convex_alone (convex.ConvexMonotone3 s) = one_part total (mixing method)
  convex_alone (convex.ConvexMonotone4 s) = one_part total (mixing method)
  convex_alone (convex.ConvexMonotone4Min s) = one_part total (mixing method)

  module _ (period : Period) where
    shaped_weighed : (P N : Float) → Weighed (shaped method period P N)
    unfolding shaped mixed
    shaped_weighed P N =
        of_each Weighed (lt method.quadraticity one) _ _
        (λ below.
        of_both Weighed (in_first P N) _ _ (quadratic_alone (first_region method period P N))
        (of_each Weighed (lt zero method.quadraticity) _ _ (λ above. rw (above, below)) (λ none. convex_alone (convex_part method period P N))))
        (λ whole. quadratic_alone (quadratic_part method period P N))

    pub section_weighed : Weighed (section_of method period)
    unfolding section_of by_steps
    section_weighed =
        of_both Weighed (at_zero method period) _ _ (one_part total (mixing method))
        (of_both Weighed (flat _ _) _ _ (one_part total (mixing method)) (shaped_weighed _ _))

-- ---- no split
whole_quadratic : (p : QuadraticPart) → quadratic_split p ≡ false → split_in (quadratic-part.alone p) ≡ false
whole_quadratic (quadratic.Quadratic s) h = h
whole_quadratic (quadratic.QuadraticMin s) h = h

whole_convex : (c : ConvexMonotonePart) → convex_split c ≡ false → split_in (convex-part.alone c) ≡ false
whole_convex (convex.ConvexMonotone2 s) h = h
whole_convex (convex.ConvexMonotone3 s) h = h
whole_convex (convex.ConvexMonotone4 s) h = h
whole_convex (convex.ConvexMonotone4Min s) h = h

neither : {a b : Bool} → a ≡ false → b ≡ false → a || b ≡ false
neither g h = rw (g, h)

module _ (method : ConvexMonotone) (free : method.force_positive ≡ false) (period : Period) where
  made_whole : (min : Bool) → min ≡ false → quadratic_split (made period method.split min) ≡ false
  unfolding made
  made_whole min h = rw h

  module _ (P N : Float) where
    part_whole : quadratic_split (quadratic_part method period P N) ≡ false
    unfolding min_kind
    part_whole = made_whole (min_kind method P N) (rw free)

    first_whole : quadratic_split (first_region method period P N) ≡ false
    unfolding first_region
    first_whole = of_both (λ (p : QuadraticPart). quadratic_split p ≡ false) (lt zero method.quadraticity) _ _ part_whole (made_whole method.force_positive free)

    fourth_whole : (eta : Float) → convex_split (fourth method period P N eta) ≡ false
    unfolding fourth
    fourth_whole eta = rw free

    convex_whole : convex_split (convex_part method period P N) ≡ false
    unfolding convex_part second third
    convex_whole =
        let Whole : ConvexMonotonePart → Type 0 = λ c. convex_split c ≡ false in
        of_both Whole (in_second P N) _ _
        (of_both Whole (lt ((N ⊕ two ⊗ P) ⊘ (N ⊖ P)) (b2 method)) _ _ refl (fourth_whole _))
        (of_both Whole (in_third P N) _ _ (of_both Whole (lt (b3 method) (N ⊘ (N ⊖ P) ⊗ three)) _ _ refl (fourth_whole _)) (fourth_whole _))

    shaped_whole : split_in (shaped method period P N) ≡ false
    unfolding shaped mixed
    shaped_whole =
        let Whole : Section → Type 0 = λ s. split_in s ≡ false in
        of_both Whole (lt method.quadraticity one) _ _
        (of_both Whole (in_first P N) _ _ (whole_quadratic (first_region method period P N) first_whole)
        (of_both Whole (lt zero method.quadraticity) _ _ (neither part_whole convex_whole) (whole_convex (convex_part method period P N) convex_whole)))
        (whole_quadratic (quadratic_part method period P N) part_whole)

  pub section_whole : split_in (section_of method period) ≡ false
  unfolding section_of by_steps
  section_whole =
      let Whole : Section → Type 0 = λ s. split_in s ≡ false in
      of_both Whole (at_zero method period) _ _ refl (of_both Whole (flat _ _) _ _ refl (shaped_whole _ _))

-- ---- and so none that is split in an unusual way
quadratic_usual : (x : Float) (p : QuadraticPart) → quadratic_split p ≡ false → quadratic_unusual x p ≡ false
quadratic_usual x (quadratic.Quadratic s) h = h
quadratic_usual x (quadratic.QuadraticMin s) h = rw h

convex_usual : (x : Float) (c : ConvexMonotonePart) → convex_split c ≡ false → convex_unusual x c ≡ false
convex_usual x (convex.ConvexMonotone2 s) h = h
convex_usual x (convex.ConvexMonotone3 s) h = h
convex_usual x (convex.ConvexMonotone4 s) h = h
convex_usual x (convex.ConvexMonotone4Min s) h = rw h

pub whole_usual : (x : Float) (s : Section) → split_in s ≡ false → unusual_in x s ≡ false
whole_usual x (section.EverywhereConstant s) h = h
whole_usual x (section.ConstantGrad s) h = h
whole_usual x (section.ConvexMonotone2 s) h = h
whole_usual x (section.ConvexMonotone3 s) h = h
whole_usual x (section.ConvexMonotone4 s) h = h
whole_usual x (section.ConvexMonotone4Min s) h = rw h
whole_usual x (section.Quadratic s) h = h
whole_usual x (section.QuadraticMin s) h = rw h
whole_usual x (section.Combination s) h =
    let n = or_none (quadratic_split s.quadratic_helper) (convex_split s.conv_mono_helper) h in
    neither (quadratic_usual x s.quadratic_helper n.0) (convex_usual x s.conv_mono_helper n.1)

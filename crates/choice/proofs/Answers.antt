-- Which kinds can be the answer at all: by positivity, and by how much of the quadratic part is asked for.
use mathlib.Core.Bool.{Bool, true, false, cond, not, ◌&&◌}
use mathlib.Core.Path.{◌≡◌, refl}
use lib.Ieee.{Float, lt}
use Rattle.numbers.specs.Words.{◌⊖◌, zero, one}
use Rattle.numbers.proofs.Ways.{of_both}
use Rattle.section.specs.declared.section.Section.{Section}
use Rattle.section.specs.declared.section.Section.TheVariants as section
use Rattle.section.specs.declared.constant_grad.ConstantGrad.{ConstantGrad}
use Rattle.section.specs.declared.everywhere_constant.EverywhereConstant.{EverywhereConstant}
use Rattle.convex.specs.declared.convex_monotone2.ConvexMonotone2.{ConvexMonotone2}
use Rattle.convex.specs.declared.convex_monotone3.ConvexMonotone3.{ConvexMonotone3}
use Rattle.section.specs.declared.combination.Combination.{Combination}
use Rattle.section.specs.declared.quadratic_part.QuadraticPart.{QuadraticPart}
use Rattle.section.specs.declared.quadratic_part.QuadraticPart.TheVariants as part
use Rattle.section.specs.declared.convex_monotone_part.ConvexMonotonePart.{ConvexMonotonePart}
use Rattle.section.specs.declared.convex_monotone_part.ConvexMonotonePart.TheVariants as other
use Rattle.table.specs.declared.method.ConvexMonotone.{ConvexMonotone}
use Rattle.table.specs.declared.method.Split.{Split}
use Rattle.choice.specs.declared.period.Period.{Period}
use Rattle.choice.specs.Regions.{flat, min_fits, in_first}
use Rattle.section.specs.QuadraticPart as quadratic
use Rattle.choice.specs.QuadraticPart.{made, min_kind, quadratic_part}
use Rattle.section.specs.ConvexMonotonePart as convex
use Rattle.choice.specs.ConvexPart.{fourth, fourth_min, second, third, convex_part}
use Rattle.choice.specs.Choice.{section_of, by_steps, shaped, first_region, mixed}
use Rattle.choice.proofs.Laws.{all_quadratic, convex_alone}

-- with positivity no plain fourth kind, without it no Min kind, by itself or in a combination
unfoldable pub quadratic_suits : Bool → QuadraticPart → Bool
quadratic_suits positive (part.Quadratic s) = true
quadratic_suits positive (part.QuadraticMin s) = positive

unfoldable pub convex_suits : Bool → ConvexMonotonePart → Bool
convex_suits positive (other.ConvexMonotone2 s) = true
convex_suits positive (other.ConvexMonotone3 s) = true
convex_suits positive (other.ConvexMonotone4 s) = not positive
convex_suits positive (other.ConvexMonotone4Min s) = positive

unfoldable pub suits : Bool → Section → Bool
suits positive (section.EverywhereConstant s) = true
suits positive (section.ConstantGrad s) = true
suits positive (section.ConvexMonotone2 s) = true
suits positive (section.ConvexMonotone3 s) = true
suits positive (section.ConvexMonotone4 s) = not positive
suits positive (section.ConvexMonotone4Min s) = positive
suits positive (section.Quadratic s) = true
suits positive (section.QuadraticMin s) = positive
suits positive (section.Combination s) = quadratic_suits positive s.quadratic_helper && convex_suits positive s.conv_mono_helper

-- a quadratic part and nothing else; no quadratic part
unfoldable pub only_quadratic : Section → Bool
only_quadratic (section.EverywhereConstant s) = false
only_quadratic (section.ConstantGrad s) = false
only_quadratic (section.ConvexMonotone2 s) = false
only_quadratic (section.ConvexMonotone3 s) = false
only_quadratic (section.ConvexMonotone4 s) = false
only_quadratic (section.ConvexMonotone4Min s) = false
only_quadratic (section.Quadratic s) = true
only_quadratic (section.QuadraticMin s) = true
only_quadratic (section.Combination s) = false

unfoldable pub no_quadratic : Section → Bool
no_quadratic (section.EverywhereConstant s) = true
no_quadratic (section.ConstantGrad s) = true
no_quadratic (section.ConvexMonotone2 s) = true
no_quadratic (section.ConvexMonotone3 s) = true
no_quadratic (section.ConvexMonotone4 s) = true
no_quadratic (section.ConvexMonotone4Min s) = true
no_quadratic (section.Quadratic s) = false
no_quadratic (section.QuadraticMin s) = false
no_quadratic (section.Combination s) = false

-- what holds of both outcomes of a test
either : {A : Type 0} (Q : A → Bool) (b : Bool) (x y : A) → Q x ≡ true → Q y ≡ true → Q (cond b x y) ≡ true
either Q = of_both (λ a. Q a ≡ true)

-- ---- a part by itself
quadratic_suits_alone : (positive : Bool) (p : QuadraticPart) → quadratic_suits positive p ≡ true → suits positive (quadratic.alone p) ≡ true
unfolding quadratic_suits suits
quadratic_suits_alone positive (part.Quadratic s) h = h
quadratic_suits_alone positive (part.QuadraticMin s) h = h

convex_suits_alone : (positive : Bool) (p : ConvexMonotonePart) → convex_suits positive p ≡ true → suits positive (convex.alone p) ≡ true
unfolding convex_suits suits
convex_suits_alone positive (other.ConvexMonotone2 s) h = h
convex_suits_alone positive (other.ConvexMonotone3 s) h = h
convex_suits_alone positive (other.ConvexMonotone4 s) h = h
convex_suits_alone positive (other.ConvexMonotone4Min s) h = h

quadratic_only : (p : QuadraticPart) → only_quadratic (quadratic.alone p) ≡ true
unfolding only_quadratic
quadratic_only (part.Quadratic s) = refl
quadratic_only (part.QuadraticMin s) = refl

convex_no_quadratic : (p : ConvexMonotonePart) → no_quadratic (convex.alone p) ≡ true
unfolding no_quadratic
convex_no_quadratic (other.ConvexMonotone2 s) = refl
convex_no_quadratic (other.ConvexMonotone3 s) = refl
convex_no_quadratic (other.ConvexMonotone4 s) = refl
convex_no_quadratic (other.ConvexMonotone4Min s) = refl

-- ---- a constant, a line, and two parts
constant_suits : (positive : Bool) (s : EverywhereConstant) → suits positive (section.EverywhereConstant s) ≡ true
unfolding suits
constant_suits positive s = refl

line_suits : (positive : Bool) (s : ConstantGrad) → suits positive (section.ConstantGrad s) ≡ true
unfolding suits
line_suits positive s = refl

two_suit : (positive : Bool) (s : Combination) → quadratic_suits positive s.quadratic_helper ≡ true → convex_suits positive s.conv_mono_helper ≡ true →
    suits positive (section.Combination s) ≡ true
unfolding suits
two_suit positive s p q = rw (p, q)

-- ---- a part as it is made
plain2 : (positive : Bool) (s : ConvexMonotone2) → convex_suits positive (other.ConvexMonotone2 s) ≡ true
unfolding convex_suits
plain2 positive s = refl

plain3 : (positive : Bool) (s : ConvexMonotone3) → convex_suits positive (other.ConvexMonotone3 s) ≡ true
unfolding convex_suits
plain3 positive s = refl

made_suits : (period : Period) (mode : Split) (positive min : Bool) → quadratic_suits positive (made period mode (positive && min)) ≡ true
unfolding made quadratic_suits
made_suits period mode true true = refl
made_suits period mode true false = refl
made_suits period mode false min = refl

made_positive : (period : Period) (mode : Split) (positive : Bool) → quadratic_suits positive (made period mode positive) ≡ true
unfolding made quadratic_suits
made_positive period mode true = refl
made_positive period mode false = refl

by_positivity : (positive : Bool) (x y : ConvexMonotonePart) → convex_suits true x ≡ true → convex_suits false y ≡ true →
    convex_suits positive (cond positive x y) ≡ true
by_positivity true x y p q = p
by_positivity false x y p q = q

module _ (method : ConvexMonotone) (period : Period) (P N : Float) where
  open method use {force_positive, split}

  fourth_suits : (eta : Float) → convex_suits force_positive (fourth method period P N eta) ≡ true
  unfolding fourth fourth_min convex_suits
  fourth_suits eta = by_positivity force_positive _ _ refl refl

  convex_suits_lem : convex_suits force_positive (convex_part method period P N) ≡ true
  unfolding convex_part second third
  convex_suits_lem = search (either (convex_suits force_positive), plain2, plain3, fourth_suits)

  quadratic_suits_lem : quadratic_suits force_positive (quadratic_part method period P N) ≡ true
  unfolding min_kind
  quadratic_suits_lem = made_suits period split force_positive (min_fits P N)

-- ---- the answer
module _ (method : ConvexMonotone) (period : Period) where
  open method use {quadraticity, force_positive}
  open period use {f_prev, f_next, f_average}

  abbrev P : Float
  P = f_prev ⊖ f_average

  abbrev N : Float
  N = f_next ⊖ f_average

  -- whatever the settings and the numbers
  pub kinds_suit : suits force_positive (section_of method period) ≡ true
  unfolding section_of by_steps shaped first_region mixed
  kinds_suit =
      search (
        constant_suits,
        either (suits force_positive),
        either (quadratic_suits force_positive),
        line_suits,
        two_suit,
        quadratic_suits_alone,
        convex_suits_alone,
        quadratic_suits_lem method period P N,
        convex_suits_lem method period P N,
        made_positive,
      ) depth 8

  pub quadratic_at_one : flat P N ≡ false → lt quadraticity one ≡ false → only_quadratic (by_steps method period) ≡ true
  quadratic_at_one f q = rw (all_quadratic method period f q) (search quadratic_only)

  pub convex_at_zero : flat P N ≡ false → lt quadraticity one ≡ true → in_first P N ≡ false → lt zero quadraticity ≡ false →
      no_quadratic (by_steps method period) ≡ true
  convex_at_zero f b r q = rw (convex_alone method period f b r q) (search convex_no_quadratic)

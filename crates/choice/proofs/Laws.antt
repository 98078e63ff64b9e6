-- What the choice comes to in each case, as laws over all numbers: NaN, infinities and both zeros included.
use mathlib.Core.Bool.{true, false, not, ◌&&◌}
use mathlib.Core.Path.{◌≡◌}
use lib.Ieee.{Float, lt, le, eq}
use Rattle.numbers.specs.Words.{◌⊖◌, zero, one, tiny, abs}
use Rattle.section.specs.declared.section.Section.TheVariants as section
use Rattle.section.specs.ConstantGrad as grad
use Rattle.section.specs.Combination as combination
use Rattle.table.specs.declared.method.ConvexMonotone.{ConvexMonotone}
use Rattle.choice.specs.declared.period.Period.{Period}
use Rattle.choice.specs.Regions.{flat, min_fits, in_first}
use Rattle.section.specs.QuadraticPart as quadratic
use Rattle.choice.specs.QuadraticPart.{made, min_kind}
use Rattle.section.specs.ConvexMonotonePart as convex
use Rattle.choice.specs.ConvexPart.{convex_part}
use Rattle.choice.specs.Choice.{by_steps, shaped, first_region, mixed}
use Rattle.choice.proofs.Signs.{less_or_equal}

-- One law for each case of the choice.
module _ (method : ConvexMonotone) (period : Period) where
  open method use {quadraticity, force_positive, split}
  open period use {x_prev, x_next, f_prev, f_next, f_average, prev_primitive}

  abbrev P : Float
  P = f_prev ⊖ f_average

  abbrev N : Float
  N = f_next ⊖ f_average

  -- both nodes on the average: a straight line, whatever the settings
  pub straight : lt (abs P) tiny ≡ true → lt (abs N) tiny ≡ true →
      by_steps method period ≡ section.ConstantGrad (grad.new f_prev prev_primitive x_prev x_next f_next)
  unfolding by_steps flat
  straight p n = rw (p, n)

  module _ (bent : flat P N ≡ false) where
    -- a quadraticity that is not below 1.0: the quadratic part of step 2 by itself, in every region
    pub all_quadratic : lt quadraticity one ≡ false → by_steps method period ≡ quadratic.alone (made period split (force_positive && min_fits P N))
    unfolding by_steps shaped min_kind
    all_quadratic q = rw (bent, q)

    module _ (below : lt quadraticity one ≡ true) where
      -- the first region: no convex-monotone part and no weight
      pub first_mixed : in_first P N ≡ true → lt zero quadraticity ≡ true →
          by_steps method period ≡ quadratic.alone (made period split (force_positive && min_fits P N))
      unfolding by_steps shaped first_region min_kind
      first_mixed f q = rw (bent, below, f, q)

      pub first_convex : in_first P N ≡ true → lt zero quadraticity ≡ false → by_steps method period ≡ quadratic.alone (made period split force_positive)
      unfolding by_steps shaped first_region
      first_convex f q = rw (bent, below, f, q)

      -- outside it: two parts, weighted by the quadraticity, or the one part
      pub both_parts : in_first P N ≡ false → lt zero quadraticity ≡ true →
          by_steps method period ≡ section.Combination (combination.new (made period split (force_positive && min_fits P N)) (convex_part method period P N) quadraticity)
      unfolding by_steps shaped mixed min_kind
      both_parts f q = rw (bent, below, f, q)

      pub convex_alone : in_first P N ≡ false → lt zero quadraticity ≡ false → by_steps method period ≡ convex.alone (convex_part method period P N)
      unfolding by_steps shaped mixed
      convex_alone f q = rw (bent, below, f, q)

-- The original asks whether the quadraticity equals 0.0 or 1.0.
-- Here it is asked whether it is above the one or below the other. From 0.0 to 1.0 that comes to the same.
pub unless_zero : (q : Float) → le zero q ≡ true → lt zero q ≡ not (eq zero q)
unless_zero q within = less_or_equal zero q within

pub unless_one : (q : Float) → le q one ≡ true → lt q one ≡ not (eq q one)
unless_one q within = less_or_equal q one within

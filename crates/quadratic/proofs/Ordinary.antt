-- The parabolas answer finite numbers anywhere within 2 ^ 80: for fields within 2 ^ 80 and divisors that are at least 2 ^ -40. A price stays within 2 ^ 500
-- and a total within 2 ^ 850, which leaves room for a weight.
use mathlib.Core.Bool.{true}
use mathlib.Core.Path.{◌≡◌}
use lib.Ieee.{Float, le, lt}
use Rattle.numbers.specs.Words.{◌⊕◌, ◌⊖◌, ◌⊗◌, ◌⊘◌}
use Rattle.numbers.proofs.Ways.{of_both, of_each}
use Rattle.numbers.proofs.Bounds.{Within, Low, wider, sum_within, product_within, quotient_within}
use Rattle.numbers.proofs.Ratios.{zero_within, two_low, three_low}
use Rattle.numbers.proofs.Ordinary.{place_within, before_within, after_within}
use Rattle.quadratic.specs.declared.quadratic.Quadratic.{Quadratic}
use Rattle.quadratic.specs.declared.quadratic_min.QuadraticMin.{QuadraticMin}
use Rattle.quadratic.specs.Parabola.{under}
use Rattle.quadratic.specs.Quadratic as quadratic
use Rattle.quadratic.specs.QuadraticMin as quadmin

-- what both kinds have: where the period starts, the length, the coefficients and the total before
pub record Fields (x0 d a b c before : Float) : Type 0 where
  pub start : Within 80 x0
  pub length : Within 80 d
  pub square : Within 80 a
  pub slope : Within 80 b
  pub height : Within 80 c
  pub total : Within 80 before

-- the kinds, with the divisors of each
pub record Plain (s : Quadratic) : Type 0 where
  pub fields : Fields s.x_prev s.x_scaling s.a s.b s.c s.prev_primitive
  pub length_low : Low 40 s.x_scaling

pub record Min (s : QuadraticMin) : Type 0 where
  pub fields : Fields s.x1 s.x_scaling s.a s.b s.c s.primitive1
  pub stretch : Within 80 s.primitive2
  pub length_low : Low 40 (s.x4 ⊖ s.x1)
  pub ratio_low : s.split_region ≡ true → Low 40 s.x_ratio

-- a parabola and what lies under it, at a place that may lie far outside the period
module _ {x0 d a b c before v : Float} (o : Fields x0 d a b c before) (w : Within 163 v) where
  squared : Within 406 (a ⊗ v ⊗ v)
  squared = product_within (product_within o.square w tt) w tt

  plain_at : Within 500 (a ⊗ v ⊗ v ⊕ b ⊗ v ⊕ c)
  plain_at = wider (sum_within (sum_within squared (product_within o.slope w tt) tt) o.height tt) tt

  min_at : Within 500 (c ⊕ b ⊗ v ⊕ a ⊗ v ⊗ v)
  min_at = wider (sum_within (sum_within o.height (product_within o.slope w tt) tt) squared tt) tt

  under_at : Within 850 (under before d a b c v)
  under_at =
      let cubic = product_within (product_within (quotient_within o.square three_low tt) w tt) w tt in
      let bent = sum_within (sum_within cubic (product_within (quotient_within o.slope two_low tt) w tt) tt) o.height tt in
      wider (sum_within o.total (product_within (product_within o.length bent tt) w tt) tt) tt

module _ (s : Quadratic) (o : Plain s) {x : Float} (wx : Within 80 x) where
  open o use {fields}

  plain_place : Within 163 ((x ⊖ s.x_prev) ⊘ s.x_scaling)
  plain_place = wider (place_within wx fields.start o.length_low) tt

  pub plain_value : Within 500 (quadratic.value s x)
  plain_value = plain_at fields plain_place

  pub plain_primitive : Within 850 (quadratic.primitive s x)
  plain_primitive = under_at fields plain_place

module _ (s : QuadraticMin) (o : Min s) {x : Float} (wx : Within 80 x) where
  open o use {fields, ratio_low}

  v : Within 121 (quadmin.x_val s x)
  v = place_within wx fields.start o.length_low

  pub min_value : Within 500 (quadmin.value s x)
  unfolding quadmin.value
  min_value =
      of_each (Within 500) s.split_region _ _
      (λ split.
      of_both (Within 500) (le x s.x2) _ _ (min_at fields (before_within v (ratio_low split)))
      (of_both (Within 500) (lt x s.x3) _ _ (wider zero_within tt) (min_at fields (after_within v (ratio_low split)))))
      (λ whole. min_at fields (wider v tt))

  pub min_primitive : Within 850 (quadmin.primitive s x)
  unfolding quadmin.primitive
  min_primitive =
      of_each (Within 850) s.split_region _ _
      (λ split.
      of_both (Within 850) (lt x s.x2) _ _ (under_at fields (before_within v (ratio_low split)))
      (of_both (Within 850) (lt x s.x3) _ _ (wider o.stretch tt) (under_at fields (after_within v (ratio_low split)))))
      (λ whole. under_at fields (wider v tt))

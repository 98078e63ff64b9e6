-- The convex-monotone kinds answer finite numbers anywhere within 2 ^ 80: for fields within 2 ^ 80 and divisors that are at least 2 ^ -40. A price stays within
-- 2 ^ 500 and a total within 2 ^ 850, which leaves room for a weight.
use mathlib.Core.Bool.{true, not}
use mathlib.Core.Path.{◌≡◌}
use lib.Ieee.{Float, le, lt}
use Rattle.numbers.specs.Words.{◌⊕◌, ◌⊖◌, ◌⊗◌, ◌⊘◌, one, three}
use Rattle.numbers.proofs.Ways.{not_not, of_both, of_each}
use Rattle.numbers.proofs.Bounds.{Within, Low, wider, sum_within, difference_within, product_within, quotient_within}
use Rattle.numbers.proofs.Ratios.{zero_within, one_within, three_low}
use Rattle.numbers.proofs.Ordinary.{square_low, place_within, before_within, after_within}
use Rattle.convex.specs.declared.convex_monotone2.ConvexMonotone2.{ConvexMonotone2}
use Rattle.convex.specs.declared.convex_monotone3.ConvexMonotone3.{ConvexMonotone3}
use Rattle.convex.specs.declared.convex_monotone4.ConvexMonotone4.{ConvexMonotone4}
use Rattle.convex.specs.declared.convex_monotone4_min.ConvexMonotone4Min.{ConvexMonotone4Min}
use Rattle.convex.specs.ConvexMonotone2 as cm2
use Rattle.convex.specs.ConvexMonotone3 as cm3
use Rattle.convex.specs.ConvexMonotone4 as cm4
use Rattle.convex.specs.ConvexMonotone4Min as cm4min

-- what all kinds have: where the period starts, its length, the two nodes, the average, eta and the total before
pub record Fields (x0 d P N y n before : Float) : Type 0 where
  pub start : Within 80 x0
  pub length : Within 80 d
  pub prev : Within 80 P
  pub next : Within 80 N
  pub average : Within 80 y
  pub eta : Within 80 n
  pub total : Within 80 before
  pub length_low : Low 40 d

-- the kinds, with the divisors of each
pub record Second (s : ConvexMonotone2) : Type 0 where
  pub fields : Fields s.x_prev s.x_scaling s.g_prev s.g_next s.f_average s.eta2 s.prev_primitive
  pub rest_low : Low 40 (one ⊖ s.eta2)

pub record Third (s : ConvexMonotone3) : Type 0 where
  pub fields : Fields s.x_prev s.x_scaling s.g_prev s.g_next s.f_average s.eta3 s.prev_primitive
  pub eta_low : Low 40 s.eta3

pub record Fourth (s : ConvexMonotone4) : Type 0 where
  pub fields : Fields s.x_prev s.x_scaling s.g_prev s.g_next s.f_average s.eta4 s.prev_primitive
  pub turn : Within 80 s.a
  pub eta_low : Low 40 s.eta4
  pub rest_low : Low 40 (one ⊖ s.eta4)

pub record FourthMin (s : ConvexMonotone4Min) : Type 0 where
  pub base : Fourth s.base
  pub ratio : Within 80 s.x_ratio
  pub ratio_low : s.split_region ≡ true → Low 40 s.x_ratio

third : Within 0 (one ⊘ three)
third = quotient_within one_within three_low tt

-- the square of what is left of 1.0 by eta
rest_square : {eta : Float} → Within 80 eta → Low 40 (one ⊖ eta) → Low 80 ((one ⊖ eta) ⊗ (one ⊖ eta))
rest_square w l = square_low (difference_within one_within w tt) l

eta_square : {eta : Float} → Within 80 eta → Low 40 eta → Low 80 (eta ⊗ eta)
eta_square w l = square_low (wider w tt) l

-- ---- the second kind
module _ (s : ConvexMonotone2) (o : Second s) {x : Float} (wx : Within 80 x) where
  open o use {fields}

  second_place : Within 121 ((x ⊖ s.x_prev) ⊘ s.x_scaling)
  second_place = place_within wx fields.start fields.length_low

  second_bend : Within 161 ((s.g_next ⊖ s.g_prev) ⊘ ((one ⊖ s.eta2) ⊗ (one ⊖ s.eta2)))
  second_bend = quotient_within (difference_within fields.next fields.prev tt) (rest_square fields.eta o.rest_low) tt

  pub second_value : Within 500 (cm2.value s x)
  unfolding cm2.value
  second_value =
      let flat = sum_within fields.average fields.prev tt in
      let far = difference_within second_place fields.eta tt in
      of_both (Within 500) (le _ _) _ _ (wider flat tt) (wider (sum_within flat (product_within (product_within second_bend far tt) far tt) tt) tt)

  pub second_primitive : Within 850 (cm2.primitive s x)
  unfolding cm2.primitive
  second_primitive =
      let v = second_place in
      let e = fields.eta in
      let flat = sum_within (product_within fields.average v tt) (product_within fields.prev v tt) tt in
      let cubes = difference_within (product_within (product_within v v tt) v tt) (product_within (product_within e e tt) e tt) tt in
      let cubic =
      sum_within (difference_within (product_within third cubes tt) (product_within (product_within e v tt) v tt) tt) (product_within (product_within e e tt) v tt) tt in
      of_both (Within 850) (le _ _) _ _
      (wider (sum_within fields.total (product_within fields.length flat tt) tt) tt)
      (wider (sum_within fields.total (product_within fields.length (sum_within flat (product_within second_bend cubic tt) tt) tt) tt) tt)

-- ---- the third
module _ (s : ConvexMonotone3) (o : Third s) {x : Float} (wx : Within 80 x) where
  open o use {fields}

  third_place : Within 121 ((x ⊖ s.x_prev) ⊘ s.x_scaling)
  third_place = place_within wx fields.start fields.length_low

  third_bend : Within 161 ((s.g_prev ⊖ s.g_next) ⊘ (s.eta3 ⊗ s.eta3))
  third_bend = quotient_within (difference_within fields.prev fields.next tt) (eta_square fields.eta o.eta_low) tt

  pub third_value : Within 500 (cm3.value s x)
  unfolding cm3.value
  third_value =
      let flat = sum_within fields.average fields.next tt in
      let far = difference_within fields.eta third_place tt in
      of_both (Within 500) (le _ _) _ _ (wider (sum_within flat (product_within (product_within third_bend far tt) far tt) tt) tt) (wider flat tt)

  pub third_primitive : Within 850 (cm3.primitive s x)
  unfolding cm3.primitive
  third_primitive =
      let v = third_place in
      let e = fields.eta in
      let flat = sum_within (product_within fields.average v tt) (product_within fields.next v tt) tt in
      let thirds = product_within (product_within (product_within third v tt) v tt) v tt in
      let cubic = sum_within (difference_within thirds (product_within (product_within e v tt) v tt) tt) (product_within (product_within e e tt) v tt) tt in
      let whole = product_within (product_within (product_within third e tt) e tt) e tt in
      of_both (Within 850) (le _ _) _ _
      (wider (sum_within fields.total (product_within fields.length (sum_within flat (product_within third_bend cubic tt) tt) tt) tt) tt)
      (wider (sum_within fields.total (product_within fields.length (sum_within flat (product_within third_bend whole tt) tt) tt) tt) tt)

-- ---- the fourth: its two parabolas, at a place and with a length that may be squeezed
module _ (s : ConvexMonotone4) (o : Fourth s) where
  open o use {fields}

  e : Within 80 s.eta4
  e = fields.eta

  left_height : Within 81 (s.g_prev ⊖ s.a)
  left_height = difference_within fields.prev o.turn tt

  right_height : Within 81 (s.g_next ⊖ s.a)
  right_height = difference_within fields.next o.turn tt

  left_bend : Within 161 ((s.g_prev ⊖ s.a) ⊘ (s.eta4 ⊗ s.eta4))
  left_bend = quotient_within left_height (eta_square e o.eta_low) tt

  flat : Within 81 (s.f_average ⊕ s.a)
  flat = sum_within fields.average o.turn tt

  -- what lies under the whole left parabola
  eta_cube : Within 240 (one ⊘ three ⊗ s.eta4 ⊗ s.eta4 ⊗ s.eta4)
  eta_cube = product_within (product_within (product_within third e tt) e tt) e tt

  module _ {v : Float} (w : Within 163 v) where
    left_value_lem : Within 500 (cm4.left_value s v)
    left_value_lem =
        let far = difference_within e w tt in
        wider (sum_within flat (quotient_within (product_within (product_within left_height far tt) far tt) (eta_square e o.eta_low) tt) tt) tt

    right_value_lem : Within 500 (cm4.right_value s v)
    right_value_lem =
        let far = difference_within w e tt in
        wider (sum_within flat (quotient_within (product_within (product_within right_height far tt) far tt) (rest_square e o.rest_low) tt) tt) tt

    module _ {scaling : Float} (ws : Within 160 scaling) where
      left_primitive_lem : Within 850 (cm4.left_primitive s scaling v)
      left_primitive_lem =
          let square = product_within (product_within third w tt) w tt in
          let bent = product_within left_bend (sum_within (difference_within (product_within e e tt) (product_within e w tt) tt) square tt) tt in
          wider (sum_within fields.total (product_within (product_within ws (sum_within flat bent tt) tt) w tt) tt) tt

      right_primitive_lem : Within 850 (cm4.right_primitive s scaling v)
      right_primitive_lem =
          let bend = quotient_within right_height (rest_square e o.rest_low) tt in
          let thirds = product_within (product_within (product_within third w tt) w tt) w tt in
          let parts = sum_within (difference_within thirds (product_within (product_within e w tt) w tt) tt) (product_within (product_within e e tt) w tt) tt in
          let cubic = difference_within parts eta_cube tt in
          let under = sum_within (product_within fields.average w tt) (product_within o.turn w tt) tt in
          let passed = sum_within under (product_within left_height (product_within third e tt) tt) tt in
          wider (sum_within fields.total (product_within ws (sum_within passed (product_within bend cubic tt) tt) tt) tt) tt

  module _ {x : Float} (wx : Within 80 x) where
    fourth_place : Within 121 (cm4.x_val s x)
    fourth_place = place_within wx fields.start fields.length_low

    pub fourth_value : Within 500 (cm4.value s x)
    unfolding cm4.value
    fourth_value = of_both (Within 500) (le _ _) _ _ (left_value_lem (wider fourth_place tt)) (right_value_lem (wider fourth_place tt))

    pub fourth_primitive : Within 850 (cm4.primitive s x)
    unfolding cm4.primitive
    fourth_primitive =
        let length = wider fields.length tt in
        of_both (Within 850) (le _ _) _ _ (left_primitive_lem (wider fourth_place tt) length) (right_primitive_lem (wider fourth_place tt) length)

-- ---- and split, where the ratio is a divisor
module _ (s : ConvexMonotone4Min) (o : FourthMin s) {x : Float} (wx : Within 80 x) where
  open o use {base, ratio, ratio_low}

  v : Within 121 (cm4.x_val s.base x)
  v = fourth_place s.base base wx

  pub fourth_min_value : Within 500 (cm4min.value s x)
  unfolding cm4min.value
  fourth_min_value =
      of_each (Within 500) (not s.split_region) _ _ (λ whole. fourth_value s.base base wx)
      (λ split.
      let low = ratio_low (not_not _ split) in
      of_both (Within 500) (le x s.x2) _ _ (left_value_lem s.base base (before_within v low))
      (of_both (Within 500) (lt x s.x3) _ _ (wider zero_within tt) (right_value_lem s.base base (after_within v low))))

  pub fourth_min_primitive : Within 850 (cm4min.primitive s x)
  unfolding cm4min.primitive
  fourth_min_primitive =
      let f = base.fields in
      let scaling = product_within f.length ratio tt in
      let level = sum_within (product_within f.average f.eta tt) (product_within base.turn f.eta tt) tt in
      let under = sum_within level (product_within (left_bend s.base base) (eta_cube s.base base) tt) tt in
      of_each (Within 850) (not s.split_region) _ _ (λ whole. fourth_primitive s.base base wx)
      (λ split.
      let low = ratio_low (not_not _ split) in
      of_both (Within 850) (le x s.x2) _ _ (left_primitive_lem s.base base (before_within v low) scaling)
      (of_both (Within 850) (le x s.x3) _ _ (wider (sum_within f.total (product_within scaling under tt) tt) tt)
      (right_primitive_lem s.base base (after_within v low) scaling)))

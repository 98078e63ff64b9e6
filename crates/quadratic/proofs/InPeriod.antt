-- 02, K3: a careful section that is split is no longer than its period, and where its joints lie.
use mathlib.Core.Bool.{Bool, true, false, cond, ◌&&◌}
use mathlib.Core.Path.{◌≡◌, refl, ap, ◌∙◌}
use lib.Dec.{T}
use lib.Ieee.{Float, binary64, fits, le, lt, neg, of_bits, sub}
use lib.Ieee.Fits.{sub-fits, mul-fits}
use lib.Ieee.Bits.{of_bits-fits}
use Rattle.numbers.specs.Words.{◌⊕◌, ◌⊖◌, ◌⊗◌, ◌⊘◌, zero, one, two, finite}
use Rattle.numbers.specs.OneOutcome.{Follows}
use Rattle.numbers.proofs.Ways.{never}
use Rattle.numbers.proofs.Every.{and_split}
use Rattle.numbers.proofs.AtMost.{le_on, le_of_below}
use Rattle.numbers.proofs.Shrinking.{product_comm, shrinks, shrinks_finite, product_from_zero, product_finite}
use Rattle.numbers.proofs.Sums.{sum_mono, difference_anti, sum_not_below, difference_not_above, length_from_zero}
use Rattle.quadratic.specs.declared.quadratic_min.QuadraticMin.{QuadraticMin}
use Rattle.quadratic.specs.Parabola.{a_of, b_of}
use Rattle.quadratic.specs.QuadraticMin as quadmin
use Rattle.quadratic.proofs.quadratic_min.QuadraticMin.careful.Reads as careful

-- where a chosen record is split and the second is not, the test has passed
chosen : (b : Bool) (x y : QuadraticMin) → y.split_region ≡ false → (cond b x y).split_region ≡ true → (b ≡ true) × (cond b x y ≡ x)
chosen true x y h k = (refl, refl)
chosen false x y h k = never k h

one_finite : finite one ≡ true
unfolding of_bits finite
one_finite = refl

none_left : one ⊖ one ≡ zero
unfolding of_bits sub
none_left = refl

module _ (x0 x1 f0 f1 average total : Float) where
  abbrev section : QuadraticMin
  section = quadmin.careful x0 x1 f0 f1 average total

  abbrev touching : Float
  touching = quadmin.av_root f0 f1

  abbrev ratio : Float
  ratio = average ⊘ touching

  abbrev period : Float
  period = x1 ⊖ x0

  -- where the parabola touches zero, as a part of its length
  abbrev touch : Float
  touch = neg (b_of f0 f1 touching) ⊘ (two ⊗ a_of f0 f1 touching)

  module _ (is-split : section.split_region ≡ true) where
    split_way : (quadmin.splits f0 f1 average && quadmin.in_period ratio ≡ true) × (section ≡ quadmin.split x0 x1 f0 f1 average total touching)
    unfolding quadmin.careful
    split_way = chosen (quadmin.splits f0 f1 average && quadmin.in_period ratio) _ _ refl is-split

    pub ratio_in_period : (lt zero ratio ≡ true) × (le ratio one ≡ true)
    unfolding quadmin.in_period
    ratio_in_period = and_split (lt zero ratio) (le ratio one) (and_split (quadmin.splits f0 f1 average) (quadmin.in_period ratio) split_way.0).1

    scaled : section.x_scaling ≡ period ⊗ ratio
    unfolding quadmin.split
    scaled = ap (λ (s : QuadraticMin). s.x_scaling) split_way.1

    -- It is never stretched.
    pub not_stretched : le zero period ≡ true → le section.x_scaling period ≡ true
    not_stretched h = rw scaled (shrinks period ratio (sub-fits binary64 x1 x0) h ratio_in_period.0 ratio_in_period.1)

    -- Its joints, where the parabola touches zero inside its length. x2 lies from the left knot to the length after it, and x3 from the length before the
    -- right knot to that knot.
    module _
        (fits-x0 : T (fits binary64 x0)) (fits-x1 : T (fits binary64 x1)) (finite-x0 : finite x0 ≡ true) (finite-x1 : finite x1 ≡ true)
        (finite-period : finite period ≡ true) (from_zero : le zero period ≡ true) (touch-low : le zero touch ≡ true) (touch-high : le touch one ≡ true) where
      -- the scaled length, as the joints have it
      abbrev reach : Float
      reach = ratio ⊗ period

      from_above : le zero ratio ≡ true
      from_above = le_of_below zero ratio ratio_in_period.0

      reach_from_zero : le zero reach ≡ true
      reach_from_zero = rw (product_comm ratio period) (product_from_zero period ratio finite-period from_zero from_above ratio_in_period.1)

      reach_finite : finite reach ≡ true
      reach_finite = rw (product_comm ratio period) (product_finite period ratio (sub-fits binary64 x1 x0) finite-period from_zero from_above ratio_in_period.1)

      reach_in_period : le reach period ≡ true
      reach_in_period = rw (product_comm ratio period) (shrinks_finite period ratio (sub-fits binary64 x1 x0) finite-period from_zero from_above ratio_in_period.1)

      -- a part of the reach, for a share from 0 to 1
      module _ (share : Float) (low : le zero share ≡ true) (high : le share one ≡ true) where
        part_from_zero : le zero (reach ⊗ share) ≡ true
        part_from_zero = product_from_zero reach share reach_finite reach_from_zero low high

        part_in_period : le (reach ⊗ share) period ≡ true
        part_in_period = le_on (reach ⊗ share) reach period (shrinks_finite reach share (mul-fits binary64 ratio period) reach_finite reach_from_zero low high) reach_in_period

      -- the share after the touch
      rest_low : le zero (one ⊖ touch) ≡ true
      rest_low = rw (← none_left) (difference_anti one touch one one_finite touch-high)

      rest_high : le (one ⊖ touch) one ≡ true
      rest_high = difference_not_above one touch (of_bits-fits binary64 0x3ff0_0000_0000_0000) one_finite touch-low

      pub left_joint : (le x0 section.x2 ≡ true) × (le section.x2 (x0 ⊕ period) ≡ true)
      unfolding quadmin.split
      left_joint =
          let at : section.x2 ≡ x0 ⊕ reach ⊗ touch = ap (λ (s : QuadraticMin). s.x2) split_way.1 in (
            rw at (sum_not_below x0 (reach ⊗ touch) fits-x0 finite-x0 (part_from_zero touch touch-low touch-high)),
            rw at (sum_mono x0 (reach ⊗ touch) period finite-x0 (part_in_period touch touch-low touch-high)),
          )

      pub right_joint : (le (x1 ⊖ period) section.x3 ≡ true) × (le section.x3 x1 ≡ true)
      unfolding quadmin.split
      right_joint =
          let at : section.x3 ≡ x1 ⊖ reach ⊗ (one ⊖ touch) = ap (λ (s : QuadraticMin). s.x3) split_way.1 in (
            rw at (difference_anti x1 (reach ⊗ (one ⊖ touch)) period finite-x1 (part_in_period (one ⊖ touch) rest_low rest_high)),
            rw at (difference_not_above x1 (reach ⊗ (one ⊖ touch)) fits-x1 finite-x1 (part_from_zero (one ⊖ touch) rest_low rest_high)),
          )

-- ---- Of `careful` itself: whatever it answers, between two rising knots.
pub record Rising (x0 x1 : Float) : Type 0 where
  pub fits_left : T (fits binary64 x0)
  pub fits_right : T (fits binary64 x1)
  pub left : finite x0 ≡ true
  pub right : finite x1 ≡ true
  pub rise : lt x0 x1 ≡ true

pub long : (x0 x1 : Float) → Rising x0 x1 → le zero (x1 ⊖ x0) ≡ true
long x0 x1 k = length_from_zero x0 x1 k.left k.right k.rise

pub returned_not_stretched : Follows careful.Post (λ κ a r s. let (x0, (x1, _)) = a in Rising x0 x1 → r.split_region ≡ true → le r.x_scaling (x1 ⊖ x0) ≡ true)
returned_not_stretched κ a r s allowed k is-split =
    let (x0, (x1, (f0, (f1, (average, (total, _)))))) = a in
    rw allowed (not_stretched x0 x1 f0 f1 average total (rw (← allowed) is-split) (long x0 x1 k))

-- where the parabola of a split section touches zero, as a part of its length
abbrev pub touch_of : QuadraticMin → Float
touch_of s = neg s.b ⊘ (two ⊗ s.a)

pub record JointsWithin (x0 x1 : Float) (s : QuadraticMin) : Type 0 where
  pub left_low : le x0 s.x2 ≡ true
  pub left_high : le s.x2 (x0 ⊕ (x1 ⊖ x0)) ≡ true
  pub right_low : le (x1 ⊖ (x1 ⊖ x0)) s.x3 ≡ true
  pub right_high : le s.x3 x1 ≡ true

pub returned_joints : Follows careful.Post (λ κ a r s.
    let (x0, (x1, _)) = a in
    Rising x0 x1 → finite (x1 ⊖ x0) ≡ true → r.split_region ≡ true → le zero (touch_of r) ≡ true → le (touch_of r) one ≡ true → JointsWithin x0 x1 r)
unfolding quadmin.split
returned_joints κ a r s allowed k length-finite is-split low high =
    let (x0, (x1, (f0, (f1, (average, (total, _)))))) = a in
    let is : (quadmin.careful x0 x1 f0 f1 average total).split_region ≡ true = rw (← allowed) is-split in
    let same : touch_of r ≡ touch x0 x1 f0 f1 average total = ap touch_of (allowed ∙ (split_way x0 x1 f0 f1 average total is).1) in
    let l : le zero (touch x0 x1 f0 f1 average total) ≡ true = rw (← same) low in
    let h : le (touch x0 x1 f0 f1 average total) one ≡ true = rw (← same) high in
    let lefts = left_joint x0 x1 f0 f1 average total is k.fits_left k.fits_right k.left k.right length-finite (long x0 x1 k) l h in
    let rights = right_joint x0 x1 f0 f1 average total is k.fits_left k.fits_right k.left k.right length-finite (long x0 x1 k) l h in
    record {
      left_low = rw allowed lefts.0;
      left_high = rw allowed lefts.1;
      right_low = rw allowed rights.0;
      right_high = rw allowed rights.1;
    }

-- The convex-monotone kinds start from the total that they were handed: at their own left knot, where the place is a zero, the running total is that one.
-- For nodes within 2 ^ 153 of the average, an average within 2 ^ 150, a length within 2 ^ 400 and an eta that is not at an end; the Min kind where it is not split,
-- or the knot does not lie beyond the start of the zero stretch and the ratio is of ordinary size.
use Prim.Native.Nat.{ℕ}
use mathlib.Core.Bool.{Bool, true, false}
use mathlib.Core.Path.{◌≡◌}
use lib.Ieee.{Float, le}
use Rattle.numbers.specs.Words.{◌⊕◌, ◌⊖◌, ◌⊘◌, zero, ordinary_ratio}
use Rattle.numbers.proofs.Ways.{not_not, of_both}
use Rattle.numbers.proofs.Every.{and_split}
use Rattle.numbers.proofs.AtMost.{le_of_below}
use Rattle.numbers.proofs.Bounds.{Within, Low, wider, sum_within, difference_within, product_within, quotient_within}
use Rattle.numbers.proofs.Low.{low_above}
use Rattle.numbers.proofs.Ratios.{zero_within, one_within, three_low, ordinary_within, ordinary_low}
use Rattle.numbers.proofs.Zeros.{Zero, zero_small, product_zero, quotient_zero, sum_zero, difference_zero, zero_most}
use Rattle.numbers.proofs.Totals.{Total, AtLeft, total_stays}
use Rattle.convex.specs.declared.convex_monotone4.ConvexMonotone4.{ConvexMonotone4}
use Rattle.convex.specs.declared.convex_monotone4_min.ConvexMonotone4Min.{ConvexMonotone4Min}
use Rattle.convex.specs.ConvexMonotone2 as cm2
use Rattle.convex.specs.ConvexMonotone3 as cm3
use Rattle.convex.specs.ConvexMonotone4 as cm4
use Rattle.convex.specs.ConvexMonotone4Min as cm4min
use Rattle.convex.proofs.Finite.{Inner, half_inner, square, Sized, built_sized, split_sized}

-- of an eta that is at least a power of two
before_low : {j : ℕ} {z eta : Float} → Zero z → Low j eta → le z eta ≡ true
before_low {j} {z} {eta} v low = zero_most eta v (le_of_below zero eta (low_above low))

-- the left parabola of the fourth kind, at a place that is a zero
left_starts : (s : ConvexMonotone4) {scaling z : Float} → Sized s → Total s.prev_primitive → Within 460 scaling → Zero z
    → cm4.left_primitive s scaling z ≡ s.prev_primitive
left_starts s sized kept ws v =
    let we = sized.inner.within in
    let wz = zero_small v in
    let bend = quotient_within (difference_within sized.prev sized.turn tt) (square (wider we tt) sized.inner.low) tt in
    let third = product_within (product_within (quotient_within one_within three_low tt) wz tt) wz tt in
    let bent = product_within bend (sum_within (difference_within (product_within we we tt) (product_within we wz tt) tt) third tt) tt in
    total_stays kept (product_zero (product_within ws (sum_within (sum_within sized.average sized.turn tt) bent tt) tt) v)

-- a section from x0 to x1, at x0
module _ {x0 x1 y total : Float} (wy : Within 150 y) (here : AtLeft x0 x1 total) where
  v : Zero ((x0 ⊖ x0) ⊘ (x1 ⊖ x0))
  v = here.place

  pub second_starts : {P : Float} (N eta : Float) → Within 153 P → le zero eta ≡ true → cm2.primitive (cm2.new x0 x1 P N y eta total) x0 ≡ total
  unfolding cm2.primitive
  second_starts N eta wP h = rw (zero_most eta v h) (total_stays here.total (product_zero here.length (sum_zero (product_zero wy v) (product_zero wP v))))

  pub third_starts : {P N eta : Float} → Within 153 P → Within 153 N → Within 2 eta → Low 21 eta → cm3.primitive (cm3.new x0 x1 P N y eta total) x0 ≡ total
  unfolding cm3.primitive
  third_starts wP wN we low =
      let bend = quotient_within (difference_within wP wN tt) (square we low) tt in
      let thrice = product_zero (zero_small (product_zero (zero_small (product_zero (quotient_within one_within three_low tt) v)) v)) v in
      let twice = product_zero (zero_small (product_zero we v)) v in
      let cubic = sum_zero (difference_zero thrice twice) (product_zero (product_within we we tt) v) in
      let bent = sum_zero (sum_zero (product_zero wy v) (product_zero wN v)) (product_zero bend cubic) in
      rw (before_low v low) (total_stays here.total (product_zero here.length bent))

  pub fourth_starts : {P N eta : Float} → Within 153 P → Within 153 N → Inner eta → cm4.primitive (cm4.new x0 x1 P N y eta total) x0 ≡ total
  unfolding cm4.primitive
  fourth_starts {P} {N} {eta} wP wN inner =
      rw (before_low v inner.low)
      (left_starts (cm4.new x0 x1 P N y eta total) (built_sized x0 x1 total wP wN wy inner) here.total (wider here.length tt) v)

  -- the Min kind, where it is not split, or split in the usual way
  abbrev Starts : ConvexMonotone4Min → Type 0
  Starts s = cm4min.unusual s x0 ≡ false → cm4min.primitive s x0 ≡ total

  whole_starts : {P N eta : Float} → Within 153 P → Within 153 N → Inner eta → Starts (cm4min.unsplit (cm4.new x0 x1 P N y eta total))
  unfolding cm4min.primitive
  whole_starts wP wN inner h = fourth_starts wP wN inner

  module _ {P N eta : Float} (wP : Within 153 P) (wN : Within 153 N) (inner : Inner eta) where
    split_starts : Starts (cm4min.split (cm4.new x0 x1 P N y eta total))
    unfolding cm4min.primitive cm4min.split
    split_starts h =
        let s = cm4min.split (cm4.new x0 x1 P N y eta total) in
        let usual = and_split (le x0 s.x2) (ordinary_ratio s.x_ratio) (not_not _ h) in
        let scaling = product_within here.length (ordinary_within s.x_ratio usual.1) tt in
        rw usual.0
        (left_starts s.base (split_sized x0 x1 total wP wN wy inner) here.total scaling (quotient_zero v (ordinary_low s.x_ratio usual.1)))

    new_starts : Starts (cm4min.new x0 x1 P N y eta total)
    unfolding cm4min.of_base
    new_starts =
        let base = cm4.new x0 x1 P N y eta total in
        of_both Starts (le (base.a ⊕ y) zero) _ _ split_starts (whole_starts wP wN inner)

    pub min_starts : (is_safe : Bool) → Starts (cm4min.in_mode is_safe x0 x1 P N y eta total)
    unfolding cm4min.safe
    min_starts is_safe =
        of_both Starts is_safe _ _
        (of_both Starts (cm4min.squeezed_away (cm4min.new x0 x1 P N y eta total)) _ _ (whole_starts (wider zero_within tt) (wider zero_within tt) half_inner) new_starts)
        new_starts

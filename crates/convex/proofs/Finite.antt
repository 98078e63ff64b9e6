-- The convex-monotone kinds stay finite in the period: for nodes within 2 ^ 153 of the average, an average within 2 ^ 150, and an eta that is not at an end.
use mathlib.Core.Bool.{Bool, true, false, cond}
use mathlib.Core.Path.{◌≡◌, refl}
use lib.IntN.{negsuc}
use lib.Dec.{lit<, lit≤}
use lib.Ieee.{Float, le, lt, sub, of_bits}
use Rattle.numbers.specs.Words.{◌⊕◌, ◌⊖◌, ◌⊗◌, ◌⊘◌, zero, half, one, narrow}
use Rattle.numbers.proofs.Ways.{not_not, of_both, of_each}
use Rattle.numbers.proofs.Bounds.{Within, Low, within_finite, wider, neg_within, sum_within, difference_within, product_within, quotient_within}
use Rattle.numbers.proofs.Low.{product_low}
use Rattle.numbers.proofs.Ratios.{zero_within, half_within, one_within, two_low, three_low, over_narrow}
use Rattle.convex.specs.declared.convex_monotone4.ConvexMonotone4.{ConvexMonotone4}
use Rattle.convex.specs.declared.convex_monotone4_min.ConvexMonotone4Min.{ConvexMonotone4Min}
use Rattle.convex.specs.ConvexMonotone2 as cm2
use Rattle.convex.specs.ConvexMonotone3 as cm3
use Rattle.convex.specs.ConvexMonotone4 as cm4
use Rattle.convex.specs.ConvexMonotone4Min as cm4min

-- the square of what is at least 2 ^ -21
pub square : {x : Float} → Within 2 x → Low 21 x → Low 42 (x ⊗ x)
square w l = product_low 41 l l (within_finite (product_within w w tt)) refl (lit< tt)

module _ (x0 x1 P N y eta total x : Float) (wP : Within 153 P) (wN : Within 153 N) (wy : Within 150 y) (at : Within 0 ((x ⊖ x0) ⊘ (x1 ⊖ x0))) where
  pub second : Within 0 eta → Low 21 (one ⊖ eta) → Within 1000 (cm2.value (cm2.new x0 x1 P N y eta total) x)
  unfolding cm2.value
  second we low =
      let flat = sum_within wy wP tt in
      let far = difference_within at we tt in
      let bend = quotient_within (difference_within wN wP tt) (square (wider (difference_within one_within we tt) tt) low) tt in
      of_both (Within 1000) (le ((x ⊖ x0) ⊘ (x1 ⊖ x0)) eta) _ _ (wider flat tt) (wider (sum_within flat (product_within (product_within bend far tt) far tt) tt) tt)

  pub third : Within 2 eta → Low 21 eta → Within 1000 (cm3.value (cm3.new x0 x1 P N y eta total) x)
  unfolding cm3.value
  third we low =
      let flat = sum_within wy wN tt in
      let far = difference_within we at tt in
      let bend = quotient_within (difference_within wP wN tt) (square we low) tt in
      of_both (Within 1000) (le ((x ⊖ x0) ⊘ (x1 ⊖ x0)) eta) _ _ (wider (sum_within flat (product_within (product_within bend far tt) far tt) tt) tt) (wider flat tt)

-- an eta from 2 ^ -21 to 1 - 2 ^ -21
pub record Inner (eta : Float) : Type 0 where
  pub within : Within 0 eta
  pub low : Low 21 eta
  pub rest_low : Low 21 (one ⊖ eta)

pub half_inner : Inner half
unfolding of_bits sub
half_inner = record {
  within = half_within;
  low = record { part = 1; power = negsuc 0; is = refl; size = lit≤ tt };
  rest_low = record { part = 1; power = negsuc 0; is = refl; size = lit≤ tt };
}

-- the sizes of the fourth kind, as it is built or reshaped by a split
pub record Sized (s : ConvexMonotone4) : Type 0 where
  pub inner : Inner s.eta4
  pub average : Within 158 s.f_average
  pub prev : Within 159 s.g_prev
  pub next : Within 159 s.g_next
  pub turn : Within 161 s.a

-- its two parabolas, at a place that may lie outside the period
module _ (s : ConvexMonotone4) (sized : Sized s) {v : Float} (wv : Within 42 v) where
  open sized use {inner}

  left_within : Within 1000 (cm4.left_value s v)
  left_within =
      let far = difference_within inner.within wv tt in
      let bent = product_within (product_within (difference_within sized.prev sized.turn tt) far tt) far tt in
      wider (sum_within (sum_within sized.average sized.turn tt) (quotient_within bent (square (wider inner.within tt) inner.low) tt) tt) tt

  right_within : Within 1000 (cm4.right_value s v)
  right_within =
      let far = difference_within wv inner.within tt in
      let rest = wider (difference_within one_within inner.within tt) tt in
      let bent = product_within (product_within (difference_within sized.next sized.turn tt) far tt) far tt in
      wider (sum_within (sum_within sized.average sized.turn tt) (quotient_within bent (square rest inner.rest_low) tt) tt) tt

-- the weighted middle of the two nodes
middle : {eta P N : Float} → Within 0 eta → Within 159 P → Within 159 N → Within 161 (eta ⊗ P ⊕ (one ⊖ eta) ⊗ N)
middle we wP wN = sum_within (product_within we wP tt) (product_within (difference_within one_within we tt) wN tt) tt

module _ (x0 x1 total : Float) {P N y eta : Float} (wP : Within 153 P) (wN : Within 153 N) (wy : Within 150 y) (inner : Inner eta) where
  pub built_sized : Sized (cm4.new x0 x1 P N y eta total)
  built_sized = record {
    inner = inner;
    average = wider wy tt;
    prev = wider wP tt;
    next = wider wN tt;
    turn = product_within (neg_within half_within) (middle inner.within (wider wP tt) (wider wN tt)) tt;
  }

  pub split_sized : Sized (cm4min.split (cm4.new x0 x1 P N y eta total)).base
  unfolding cm4min.split
  split_sized =
      let wf = sum_within wP wy tt in
      let wg = sum_within wN wy tt in
      let rest = difference_within one_within inner.within tt in
      let third = quotient_within (sum_within (product_within inner.within wf tt) (product_within rest wg tt) tt) three_low tt in
      let moved = sum_within wy (difference_within third wy tt) tt in
      let prev = difference_within wf moved tt in
      let next = difference_within wg moved tt in
      record { inner = inner; average = moved; prev = prev; next = next; turn = quotient_within (neg_within (middle inner.within prev next)) two_low tt }

module _ (x0 x1 y total x : Float) (wy : Within 150 y) (at : Within 0 ((x ⊖ x0) ⊘ (x1 ⊖ x0))) where
  whole : {P N eta : Float} → Within 153 P → Within 153 N → Inner eta → Within 1000 (cm4.value (cm4.new x0 x1 P N y eta total) x)
  unfolding cm4.value
  whole {P} {N} {eta} wP wN inner =
      let s = cm4.new x0 x1 P N y eta total in
      let sized = built_sized x0 x1 total wP wN wy inner in
      of_both (Within 1000) (le ((x ⊖ x0) ⊘ (x1 ⊖ x0)) eta) _ _ (left_within s sized (wider at tt)) (right_within s sized (wider at tt))

  -- Squeezed by a ratio that is not next to nothing: the ratio may be anything else, an infinity included.
  squeezed : {P N eta : Float} → Within 153 P → Within 153 N → Inner eta → lt narrow (cm4min.split (cm4.new x0 x1 P N y eta total)).x_ratio ≡ true
      → Within 1000 (cm4min.value (cm4min.split (cm4.new x0 x1 P N y eta total)) x)
  unfolding cm4min.value cm4min.split
  squeezed {P} {N} {eta} wP wN inner h =
      let s = cm4min.split (cm4.new x0 x1 P N y eta total) in
      let sized = split_sized x0 x1 total wP wN wy inner in
      of_both (Within 1000) (le x s.x2) _ _ (left_within s.base sized (wider (over_narrow s.x_ratio at h tt) tt))
      (of_both (Within 1000) (lt x s.x3) _ _ (wider zero_within tt)
      (right_within s.base sized (difference_within one_within (over_narrow s.x_ratio (difference_within one_within at tt) h tt) tt)))

  pub safe : {P N eta : Float} → Within 153 P → Within 153 N → Inner eta → Within 1000 (cm4min.value (cm4min.safe x0 x1 P N y eta total) x)
  unfolding cm4min.safe cm4min.of_base
  safe {P} {N} {eta} wP wN inner =
      of_each (λ (s : ConvexMonotone4Min). Within 1000 (cm4min.value s x)) (cm4min.squeezed_away (cm4min.new x0 x1 P N y eta total)) _ _
      (λ h. unsplit (cm4.new x0 x1 zero zero y half total) (whole (wider zero_within tt) (wider zero_within tt) half_inner)) (made (le (base.a ⊕ y) zero))
    where
      base : ConvexMonotone4
      base = cm4.new x0 x1 P N y eta total

      unsplit : (b : ConvexMonotone4) → Within 1000 (cm4.value b x) → Within 1000 (cm4min.value (cm4min.unsplit b) x)
      unsplit b w = unfold cm4min.value in w

      made : (b : Bool) → cm4min.squeezed_away (cond b (cm4min.split base) (cm4min.unsplit base)) ≡ false
          → Within 1000 (cm4min.value (cond b (cm4min.split base) (cm4min.unsplit base)) x)
      made true h = squeezed wP wN inner (unfold cm4min.split in not_not _ h)
      made false h = unsplit base (whole wP wN inner)

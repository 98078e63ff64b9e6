-- What the definitions say, as laws over all numbers: NaN, infinities and both zeros included.
use mathlib.Core.Bool.{true, false}
use mathlib.Core.Path.{◌≡◌, refl}
use lib.Ieee.{Float, le, lt}
use Rattle.numbers.specs.Words.{◌⊕◌, zero}
use Rattle.numbers.proofs.AtMost.{le_of_below}
use Rattle.convex.specs.declared.convex_monotone4.ConvexMonotone4.{ConvexMonotone4}
use Rattle.convex.specs.declared.convex_monotone4_min.ConvexMonotone4Min.{ConvexMonotone4Min}
use Rattle.convex.specs.ConvexMonotone4 as cm4
use Rattle.convex.specs.ConvexMonotone4Min as cm4min

-- A fourth kind that is not split answers as its base; what it ends on is its base's, split or not.
module _ (s : ConvexMonotone4Min) (whole : s.split_region ≡ false) (x : Float) where
  pub cm4min_whole_value : cm4min.value s x ≡ cm4.value s.base x
  unfolding cm4min.value
  cm4min_whole_value = rw whole

  pub cm4min_whole_primitive : cm4min.primitive s x ≡ cm4.primitive s.base x
  unfolding cm4min.primitive
  cm4min_whole_primitive = rw whole

-- With a + f_average above zero, or a NaN, the fourth kind is built whole: positivity changes no number.
module _ (base : ConvexMonotone4) (above : le (base.a ⊕ base.f_average) zero ≡ false) (x : Float) where
  pub cm4min_above_value : cm4min.value (cm4min.of_base base) x ≡ cm4.value base x
  unfolding cm4min.of_base cm4min.value
  cm4min_above_value = rw above

  pub cm4min_above_primitive : cm4min.primitive (cm4min.of_base base) x ≡ cm4.primitive base x
  unfolding cm4min.of_base cm4min.primitive
  cm4min_above_primitive = rw above

pub cm4min_f_next : (s : ConvexMonotone4Min) → cm4min.f_next s ≡ cm4.f_next s.base
cm4min_f_next s = refl

-- Past x2 and before x3 a split section is +0.0 and nothing accumulates.
module _ (s : ConvexMonotone4Min) (split : s.split_region ≡ true) (x : Float) (past : le x s.x2 ≡ false) (before : lt x s.x3 ≡ true) where
  pub cm4min_zero_value : cm4min.value s x ≡ zero
  unfolding cm4min.value
  cm4min_zero_value = rw (split, past, before)

  pub cm4min_zero_primitive : cm4min.primitive s x ≡ cm4min.zero_primitive s
  unfolding cm4min.primitive
  cm4min_zero_primitive = rw (split, past, le_of_below x s.x3 before)

-- At one edge each the primitive is still, or already, the constant, where the value is the curve's: at x3 of the fourth kind and at x2 of the parabola.
module _ (s : ConvexMonotone4Min) (split : s.split_region ≡ true) (x : Float) (past : le x s.x2 ≡ false) (reached : lt x s.x3 ≡ false) (at : le x s.x3 ≡ true) where
  pub cm4min_edge_value : cm4min.value s x ≡ cm4.right_value s.base (cm4min.after s x)
  unfolding cm4min.value
  cm4min_edge_value = rw (split, past, reached)

  pub cm4min_edge_primitive : cm4min.primitive s x ≡ cm4min.zero_primitive s
  unfolding cm4min.primitive
  cm4min_edge_primitive = rw (split, past, at)

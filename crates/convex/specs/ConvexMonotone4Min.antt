-- 000, ConvexMonotone4MinHelper
use Rattle.std.specs.Prelude.{Bool, true, false, not, cond, ◌&&◌, Float}
use Rattle.std.specs.Float.Ieee.{le, lt, neg}
use Rattle.numbers.specs.Words.{◌⊕◌, ◌⊖◌, ◌⊗◌, ◌⊘◌, zero, half, one, two, three, narrow, ordinary_ratio}
use Rattle.convex.specs.declared.convex_monotone4.ConvexMonotone4.{ConvexMonotone4}
use Rattle.convex.specs.declared.convex_monotone4_min.ConvexMonotone4Min.{ConvexMonotone4Min}
use Rattle.convex.specs.ConvexMonotone4 as cm4

abbrev pub unsplit : ConvexMonotone4 → ConvexMonotone4Min
unsplit base = record { base = base; split_region = false; x_ratio = zero; x2 = zero; x3 = zero }

-- the base as it was built, reshaped, with the zero stretch from x2 to x3
unfoldable pub split : ConvexMonotone4 → ConvexMonotone4Min
split old =
    let eta4 = old.eta4 in
    let f_prev = old.g_prev ⊕ old.f_average in
    let f_next = old.g_next ⊕ old.f_average in
    let reqd_shift = (eta4 ⊗ f_prev ⊕ (one ⊖ eta4) ⊗ f_next) ⊘ three ⊖ old.f_average in
    let reqd_period = reqd_shift ⊗ old.x_scaling ⊘ (old.f_average ⊕ reqd_shift) in
    let x_adjust = old.x_scaling ⊖ reqd_period in
    let f_average = old.f_average ⊕ reqd_shift in
    let g_prev = f_prev ⊖ f_average in
    let g_next = f_next ⊖ f_average in
    record {
      base = record {
        x_prev = old.x_prev;
        x_scaling = old.x_scaling;
        g_prev = g_prev;
        g_next = g_next;
        f_average = f_average;
        eta4 = eta4;
        prev_primitive = old.prev_primitive;
        a = neg (eta4 ⊗ g_prev ⊕ (one ⊖ eta4) ⊗ g_next) ⊘ two;
      };
      split_region = true;
      x_ratio = x_adjust ⊘ old.x_scaling;
      x2 = old.x_prev ⊕ x_adjust ⊗ eta4;
      x3 = old.x_prev ⊕ old.x_scaling ⊖ x_adjust ⊗ (one ⊖ eta4);
    }

unfoldable pub of_base : ConvexMonotone4 → ConvexMonotone4Min
unfolding split
of_base base = cond (le (base.a ⊕ base.f_average) zero) (split base) (unsplit base)

abbrev pub new : Float → Float → Float → Float → Float → Float → Float → ConvexMonotone4Min
new x_prev x_next g_prev g_next f_average eta4 prev_primitive =
    of_base (cm4.new x_prev x_next g_prev g_next f_average eta4 prev_primitive)

-- our own: next to nothing of the squeezed shape is left
abbrev pub squeezed_away : ConvexMonotone4Min → Bool
squeezed_away s = s.split_region && not (lt narrow s.x_ratio)

-- the shape, or flat at its average where next to nothing of it is left
unfoldable pub safe : Float → Float → Float → Float → Float → Float → Float → ConvexMonotone4Min
safe x_prev x_next g_prev g_next f_average eta4 prev_primitive =
    let made = new x_prev x_next g_prev g_next f_average eta4 prev_primitive in
    cond (squeezed_away made) (unsplit (cm4.new x_prev x_next zero zero f_average half prev_primitive)) made

-- either of the two
abbrev pub in_mode : Bool → Float → Float → Float → Float → Float → Float → Float → ConvexMonotone4Min
in_mode is_safe x_prev x_next g_prev g_next f_average eta4 prev_primitive =
    cond is_safe
    (safe x_prev x_next g_prev g_next f_average eta4 prev_primitive)
    (new x_prev x_next g_prev g_next f_average eta4 prev_primitive)

module _ (s : ConvexMonotone4Min) where
  open s use {base, split_region, x_ratio, x2, x3}
  open s.base use {x_scaling, f_average, g_prev, eta4, prev_primitive, a}

  -- the place in the base, before and after the zero stretch
  abbrev pub before : Float → Float
  before x = cm4.x_val base x ⊘ x_ratio

  abbrev pub after : Float → Float
  after x = one ⊖ (one ⊖ cm4.x_val base x) ⊘ x_ratio

  unfoldable pub value : Float → Float
  value x =
      cond (not split_region) (cm4.value base x)
      (cond (le x x2) (cm4.left_value base (before x))
      (cond (lt x x3) zero (cm4.right_value base (after x))))

  abbrev pub zero_primitive : Float
  zero_primitive =
      let bend = (g_prev ⊖ a) ⊘ (eta4 ⊗ eta4) in
      prev_primitive ⊕ x_scaling ⊗ x_ratio ⊗ (f_average ⊗ eta4 ⊕ a ⊗ eta4 ⊕ bend ⊗ (one ⊘ three ⊗ eta4 ⊗ eta4 ⊗ eta4))

  unfoldable pub primitive : Float → Float
  primitive x =
      let scaling = x_scaling ⊗ x_ratio in
      cond (not split_region) (cm4.primitive base x)
      (cond (le x x2) (cm4.left_primitive base scaling (before x))
      (cond (le x x3) zero_primitive (cm4.right_primitive base scaling (after x))))

  -- our own: split, but x does not lie before the zero stretch or at its start, or the ratio is not of ordinary size
  abbrev pub unusual : Float → Bool
  unusual x = split_region && not (le x x2 && ordinary_ratio x_ratio)

  abbrev pub f_next : Float
  f_next = cm4.f_next base

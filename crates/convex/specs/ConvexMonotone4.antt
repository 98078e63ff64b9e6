-- 000, ConvexMonotone4Helper
use Rattle.std.specs.Prelude.{cond, Float}
use Rattle.std.specs.Float.Ieee.{le, neg}
use Rattle.numbers.specs.Words.{◌⊕◌, ◌⊖◌, ◌⊗◌, ◌⊘◌, half, one, three}
use Rattle.convex.specs.declared.convex_monotone4.ConvexMonotone4.{ConvexMonotone4}

abbrev pub new : Float → Float → Float → Float → Float → Float → Float → ConvexMonotone4
new x_prev x_next g_prev g_next f_average eta4 prev_primitive = record {
  x_prev = x_prev;
  x_scaling = x_next ⊖ x_prev;
  g_prev = g_prev;
  g_next = g_next;
  f_average = f_average;
  eta4 = eta4;
  prev_primitive = prev_primitive;
  a = neg half ⊗ (eta4 ⊗ g_prev ⊕ (one ⊖ eta4) ⊗ g_next);
}

module _ (s : ConvexMonotone4) where
  open s use {x_prev, x_scaling, g_prev, g_next, f_average, eta4, prev_primitive, a}

  abbrev pub x_val : Float → Float
  x_val x = (x ⊖ x_prev) ⊘ x_scaling

  -- The two parabolas and what lies under them, at v. The Min kind uses the same with a v and a scaling of its own.
  abbrev pub left_value : Float → Float
  left_value v = f_average ⊕ a ⊕ (g_prev ⊖ a) ⊗ (eta4 ⊖ v) ⊗ (eta4 ⊖ v) ⊘ (eta4 ⊗ eta4)

  abbrev pub right_value : Float → Float
  right_value v = f_average ⊕ a ⊕ (g_next ⊖ a) ⊗ (v ⊖ eta4) ⊗ (v ⊖ eta4) ⊘ ((one ⊖ eta4) ⊗ (one ⊖ eta4))

  abbrev pub left_primitive : Float → Float → Float
  left_primitive scaling v =
      let bend = (g_prev ⊖ a) ⊘ (eta4 ⊗ eta4) in
      prev_primitive ⊕ scaling ⊗ (f_average ⊕ a ⊕ bend ⊗ (eta4 ⊗ eta4 ⊖ eta4 ⊗ v ⊕ one ⊘ three ⊗ v ⊗ v)) ⊗ v

  abbrev pub right_primitive : Float → Float → Float
  right_primitive scaling v =
      let bend = (g_next ⊖ a) ⊘ ((one ⊖ eta4) ⊗ (one ⊖ eta4)) in
      let cubic = one ⊘ three ⊗ v ⊗ v ⊗ v ⊖ eta4 ⊗ v ⊗ v ⊕ eta4 ⊗ eta4 ⊗ v ⊖ one ⊘ three ⊗ eta4 ⊗ eta4 ⊗ eta4 in
      prev_primitive ⊕ scaling ⊗ (f_average ⊗ v ⊕ a ⊗ v ⊕ (g_prev ⊖ a) ⊗ (one ⊘ three ⊗ eta4) ⊕ bend ⊗ cubic)

  unfoldable pub value : Float → Float
  value x = let v = x_val x in cond (le v eta4) (left_value v) (right_value v)

  unfoldable pub primitive : Float → Float
  primitive x = let v = x_val x in cond (le v eta4) (left_primitive x_scaling v) (right_primitive x_scaling v)

  abbrev pub f_next : Float
  f_next = f_average ⊕ g_next

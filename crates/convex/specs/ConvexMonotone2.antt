-- 000, ConvexMonotone2Helper
use Rattle.std.specs.Prelude.{cond, Float}
use Rattle.std.specs.Float.Ieee.{le}
use Rattle.numbers.specs.Words.{◌⊕◌, ◌⊖◌, ◌⊗◌, ◌⊘◌, one, three}
use Rattle.convex.specs.declared.convex_monotone2.ConvexMonotone2.{ConvexMonotone2}

abbrev pub new : Float → Float → Float → Float → Float → Float → Float → ConvexMonotone2
new x_prev x_next g_prev g_next f_average eta2 prev_primitive = record {
  x_prev = x_prev;
  x_scaling = x_next ⊖ x_prev;
  g_prev = g_prev;
  g_next = g_next;
  f_average = f_average;
  eta2 = eta2;
  prev_primitive = prev_primitive;
}

module _ (s : ConvexMonotone2) where
  open s use {x_prev, x_scaling, g_prev, g_next, f_average, eta2, prev_primitive}

  abbrev x_val : Float → Float
  x_val x = (x ⊖ x_prev) ⊘ x_scaling

  abbrev bend : Float
  bend = (g_next ⊖ g_prev) ⊘ ((one ⊖ eta2) ⊗ (one ⊖ eta2))

  unfoldable pub value : Float → Float
  value x =
      let v = x_val x in
      cond (le v eta2) (f_average ⊕ g_prev) (f_average ⊕ g_prev ⊕ bend ⊗ (v ⊖ eta2) ⊗ (v ⊖ eta2))

  unfoldable pub primitive : Float → Float
  primitive x =
      let v = x_val x in
      let cubic = one ⊘ three ⊗ (v ⊗ v ⊗ v ⊖ eta2 ⊗ eta2 ⊗ eta2) ⊖ eta2 ⊗ v ⊗ v ⊕ eta2 ⊗ eta2 ⊗ v in
      cond (le v eta2)
      (prev_primitive ⊕ x_scaling ⊗ (f_average ⊗ v ⊕ g_prev ⊗ v))
      (prev_primitive ⊕ x_scaling ⊗ (f_average ⊗ v ⊕ g_prev ⊗ v ⊕ bend ⊗ cubic))

  abbrev pub f_next : Float
  f_next = f_average ⊕ g_next

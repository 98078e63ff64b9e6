-- 000, ConvexMonotone3Helper
use Rattle.std.specs.Prelude.{cond, Float}
use Rattle.std.specs.Float.Ieee.{le}
use Rattle.numbers.specs.Words.{◌⊕◌, ◌⊖◌, ◌⊗◌, ◌⊘◌, one, three}
use Rattle.convex.specs.declared.convex_monotone3.ConvexMonotone3.{ConvexMonotone3}

abbrev pub new : Float → Float → Float → Float → Float → Float → Float → ConvexMonotone3
new x_prev x_next g_prev g_next f_average eta3 prev_primitive = record {
  x_prev = x_prev;
  x_scaling = x_next ⊖ x_prev;
  g_prev = g_prev;
  g_next = g_next;
  f_average = f_average;
  eta3 = eta3;
  prev_primitive = prev_primitive;
}

module _ (s : ConvexMonotone3) where
  open s use {x_prev, x_scaling, g_prev, g_next, f_average, eta3, prev_primitive}

  abbrev x_val : Float → Float
  x_val x = (x ⊖ x_prev) ⊘ x_scaling

  abbrev bend : Float
  bend = (g_prev ⊖ g_next) ⊘ (eta3 ⊗ eta3)

  unfoldable pub value : Float → Float
  value x =
      let v = x_val x in
      cond (le v eta3) (f_average ⊕ g_next ⊕ bend ⊗ (eta3 ⊖ v) ⊗ (eta3 ⊖ v)) (f_average ⊕ g_next)

  unfoldable pub primitive : Float → Float
  primitive x =
      let v = x_val x in
      let cubic = one ⊘ three ⊗ v ⊗ v ⊗ v ⊖ eta3 ⊗ v ⊗ v ⊕ eta3 ⊗ eta3 ⊗ v in
      cond (le v eta3)
      (prev_primitive ⊕ x_scaling ⊗ (f_average ⊗ v ⊕ g_next ⊗ v ⊕ bend ⊗ cubic))
      (prev_primitive ⊕ x_scaling ⊗ (f_average ⊗ v ⊕ g_next ⊗ v ⊕ bend ⊗ (one ⊘ three ⊗ eta3 ⊗ eta3 ⊗ eta3)))

  abbrev pub f_next : Float
  f_next = f_average ⊕ g_next

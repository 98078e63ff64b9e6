-- 000, QuadraticHelper
use Rattle.std.specs.Prelude.{Float}
use Rattle.numbers.specs.Words.{◌⊕◌, ◌⊖◌, ◌⊗◌, ◌⊘◌}
use Rattle.quadratic.specs.Parabola.{a_of, b_of, under}
use Rattle.quadratic.specs.declared.quadratic.Quadratic.{Quadratic}

abbrev pub new : Float → Float → Float → Float → Float → Float → Quadratic
new x_prev x_next f_prev f_next f_average prev_primitive = record {
  x_prev = x_prev;
  x_scaling = x_next ⊖ x_prev;
  a = a_of f_prev f_next f_average;
  b = b_of f_prev f_next f_average;
  c = f_prev;
  f_next = f_next;
  prev_primitive = prev_primitive;
}

module _ (s : Quadratic) where
  open s use {x_prev, x_scaling, a, b, c, prev_primitive}

  abbrev x_val : Float → Float
  x_val x = (x ⊖ x_prev) ⊘ x_scaling

  abbrev pub value : Float → Float
  value x = let v = x_val x in a ⊗ v ⊗ v ⊕ b ⊗ v ⊕ c

  abbrev pub primitive : Float → Float
  primitive x = under prev_primitive x_scaling a b c (x_val x)

abbrev pub f_next : Quadratic → Float
f_next s = s.f_next

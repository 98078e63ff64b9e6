-- 000, ConstantGradHelper
use Rattle.std.specs.Prelude.{Float}
use Rattle.numbers.specs.Words.{◌⊕◌, ◌⊖◌, ◌⊗◌, ◌⊘◌, half}
use Rattle.section.specs.declared.constant_grad.ConstantGrad.{ConstantGrad}

abbrev pub new : Float → Float → Float → Float → Float → ConstantGrad
new f_prev prev_primitive x_prev x_next f_next = record {
  f_prev = f_prev;
  prev_primitive = prev_primitive;
  x_prev = x_prev;
  f_grad = (f_next ⊖ f_prev) ⊘ (x_next ⊖ x_prev);
  f_next = f_next;
}

module _ (s : ConstantGrad) where
  open s use {f_prev, prev_primitive, x_prev, f_grad}

  abbrev pub value : Float → Float
  value x = f_prev ⊕ (x ⊖ x_prev) ⊗ f_grad

  abbrev pub primitive : Float → Float
  primitive x = prev_primitive ⊕ (x ⊖ x_prev) ⊗ (f_prev ⊕ half ⊗ (x ⊖ x_prev) ⊗ f_grad)

abbrev pub f_next : ConstantGrad → Float
f_next s = s.f_next

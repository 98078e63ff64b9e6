-- 000, EverywhereConstantHelper
use Rattle.std.specs.Prelude.{Float}
use Rattle.numbers.specs.Words.{◌⊕◌, ◌⊖◌, ◌⊗◌}
use Rattle.section.specs.declared.everywhere_constant.EverywhereConstant.{EverywhereConstant}

abbrev pub new : Float → Float → Float → EverywhereConstant
new value prev_primitive x_prev = record { value = value; prev_primitive = prev_primitive; x_prev = x_prev }

module _ (s : EverywhereConstant) where
  open s use {value as held, prev_primitive, x_prev}

  abbrev pub value : Float → Float
  value x = held

  abbrev pub primitive : Float → Float
  primitive x = prev_primitive ⊕ (x ⊖ x_prev) ⊗ held

  abbrev pub f_next : Float
  f_next = held

-- 000, what QuadraticHelper and QuadraticMinHelper share: the coefficients from the two ends and the average, and what lies under the parabola.
use Rattle.std.specs.Prelude.{Float}
use Rattle.std.specs.Float.Ieee.{neg}
use Rattle.numbers.specs.Words.{◌⊕◌, ◌⊖◌, ◌⊗◌, ◌⊘◌, two, three, four, six}

abbrev pub a_of : Float → Float → Float → Float
a_of f_prev f_next f_average = three ⊗ f_prev ⊕ three ⊗ f_next ⊖ six ⊗ f_average

abbrev pub b_of : Float → Float → Float → Float
b_of f_prev f_next f_average = neg (four ⊗ f_prev ⊕ two ⊗ f_next ⊖ six ⊗ f_average)

abbrev pub under : Float → Float → Float → Float → Float → Float → Float
under prev_primitive x_scaling a b c v = prev_primitive ⊕ x_scaling ⊗ (a ⊘ three ⊗ v ⊗ v ⊕ b ⊘ two ⊗ v ⊕ c) ⊗ v

-- b² - 4ac
abbrev pub discriminant : Float → Float → Float → Float
discriminant a b c = b ⊗ b ⊖ four ⊗ a ⊗ c

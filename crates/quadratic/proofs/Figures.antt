-- 01, p6, computed from the definition. All figures stand in the table of `figures`; this one stands here too, because the edit `figure_holds_the_coefficients`,
-- which changes the coefficients in the code and in the definition alike, must be refused by this crate.
use mathlib.Core.Path.{◌≡◌, refl}
use lib.Ieee.{binary64, of_bits, add, sub, mul, div, neg, le, lt}
use Rattle.numbers.specs.Words.{zero, one, three, four}
use Rattle.root.specs.Root.{root}
use Rattle.quadratic.specs.QuadraticMin as quadmin

-- on 0..1 with the ends 4 and 1 and the average 3: at 0.75 it is 1.5625
pub p6 : quadmin.value (quadmin.new zero one four one three zero) (of_bits binary64 0x3fe8_0000_0000_0000) ≡ of_bits binary64 0x3ff9_0000_0000_0000
unfolding of_bits add sub mul div neg le lt root quadmin.splits quadmin.split quadmin.new quadmin.value
p6 = refl

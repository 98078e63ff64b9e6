-- 02, K3: what does not hold of the joints of a careful section, each with an input that shows it. The touch is then not from 0 to 1.
use mathlib.Core.Bool.{true}
use mathlib.Core.Path.{◌≡◌, refl}
use lib.Ieee.{Float, inf, nan, binary64, of_bits, add, sub, mul, div, neg, le, lt}
use Rattle.numbers.specs.Words.{zero, one}
use Rattle.root.specs.Root.{root}
use Rattle.quadratic.specs.declared.quadratic_min.QuadraticMin.{QuadraticMin}
use Rattle.quadratic.specs.QuadraticMin as quadmin

abbrev seven : Float
seven = of_bits binary64 0x401c_0000_0000_0000

-- on 0..7 with the ends 0 and 3.8762162162162164 and the average 0.73: x2 lies before the left knot, by 4.5e-16
abbrev rounded_left : QuadraticMin
rounded_left = quadmin.careful zero seven zero (of_bits binary64 0x400f_027d_a5c6_fcf5) (of_bits binary64 0x3fe7_5c28_f5c2_8f5c) zero

pub before_the_left_knot : (rounded_left.split_region ≡ true) × (lt rounded_left.x2 zero ≡ true)
unfolding of_bits add sub mul div neg le lt root quadmin.splits quadmin.in_period quadmin.split quadmin.careful
before_the_left_knot = (refl, refl)

-- on 0..7 with the ends 6.8 and 0 and the average 0.76: x3 lies behind the right knot, by the last bit of 7
abbrev rounded_right : QuadraticMin
rounded_right = quadmin.careful zero seven (of_bits binary64 0x401b_3333_3333_3333) zero (of_bits binary64 0x3fe8_51eb_851e_b852) zero

pub behind_the_right_knot : (rounded_right.split_region ≡ true) × (rounded_right.x3 ≡ of_bits binary64 0x401c_0000_0000_0001)
unfolding of_bits add sub mul div neg le lt root quadmin.splits quadmin.in_period quadmin.split quadmin.careful
behind_the_right_knot = (refl, refl)

-- on 0..7 with the ends -0.597832604059211 and -0.5978326040592108, below zero, and the average -0.0375921619252469: both are infinite
abbrev far : QuadraticMin
far = quadmin.careful zero seven (of_bits binary64 0xbfe3_2171_d75d_56a8) (of_bits binary64 0xbfe3_2171_d75d_56a6) (of_bits binary64 0xbfa3_3f47_a41c_1829) zero

pub infinite_joints : (far.split_region ≡ true) × (far.x2 ≡ inf true) × (far.x3 ≡ inf true)
unfolding of_bits add sub mul div neg le lt root quadmin.splits quadmin.in_period quadmin.split quadmin.careful
infinite_joints = (refl, refl, refl)

-- on 0..1 with both ends at -1 and the average -0.1: there is no place at all
abbrev nowhere : QuadraticMin
nowhere = quadmin.careful zero one (neg one) (neg one) (of_bits binary64 0xbfb9_9999_9999_999a) zero

pub no_joints : (nowhere.split_region ≡ true) × (nowhere.x2 ≡ nan) × (nowhere.x3 ≡ nan)
unfolding of_bits add sub mul div neg le lt root quadmin.splits quadmin.in_period quadmin.split quadmin.careful
no_joints = (refl, refl, refl)

-- The words in which every formula of the library is written: Rust's operators on f64, and the numbers that the formulas name.
-- A number is an IEEE 754 binary64 value with one NaN, so two equal numbers are the same bit for bit, any NaN matching any NaN.
use Rattle.std.specs.Prelude.{Bool, true, false, ◌&&◌, Float}
use Rattle.std.specs.Float.{nan, inf, fin, binary64}
use Rattle.std.specs.Float.Ieee.{add, sub, mul, div, neg, le, of_bits}

-- one rounding each
abbrev pub ◌⊕◌ : Float → Float → Float
x ⊕ y = add binary64 x y

abbrev pub ◌⊖◌ : Float → Float → Float
x ⊖ y = sub binary64 x y

abbrev pub ◌⊗◌ : Float → Float → Float
x ⊗ y = mul binary64 x y

abbrev pub ◌⊘◌ : Float → Float → Float
x ⊘ y = div binary64 x y

infixl 65 ◌⊕◌
infixl 65 ◌⊖◌
infixl 70 ◌⊗◌
infixl 70 ◌⊘◌
-- The numbers, as the compiler reads their decimals. `proofs/Decimals.antt` shows what each is worth.
abbrev pub zero : Float
zero = of_bits binary64 0x0000_0000_0000_0000

abbrev pub half : Float
half = of_bits binary64 0x3fe0_0000_0000_0000

abbrev pub one : Float
one = of_bits binary64 0x3ff0_0000_0000_0000

abbrev pub three_halves : Float
three_halves = of_bits binary64 0x3ff8_0000_0000_0000

abbrev pub two : Float
two = of_bits binary64 0x4000_0000_0000_0000

abbrev pub three : Float
three = of_bits binary64 0x4008_0000_0000_0000

abbrev pub four : Float
four = of_bits binary64 0x4010_0000_0000_0000

abbrev pub six : Float
six = of_bits binary64 0x4018_0000_0000_0000

abbrev pub twenty_four : Float
twenty_four = of_bits binary64 0x4038_0000_0000_0000

abbrev pub thirty_six : Float
thirty_six = of_bits binary64 0x4042_0000_0000_0000

-- 1.0e-14
abbrev pub tiny : Float
tiny = of_bits binary64 0x3d06_849b_86a1_2b9b

-- 1.0e-12
abbrev pub narrow : Float
narrow = of_bits binary64 0x3d71_9799_812d_ea11

-- 2 ^ -60 and 2 ^ 60: a ratio from the one to the other is of ordinary size
abbrev pub least_ratio : Float
least_ratio = of_bits binary64 0x3c30_0000_0000_0000

abbrev pub most_ratio : Float
most_ratio = of_bits binary64 0x43b0_0000_0000_0000

abbrev pub ordinary_ratio : Float → Bool
ordinary_ratio r = le least_ratio r && le r most_ratio

-- our own: 2 ^ 80 and 2 ^ -40. Numbers of ordinary size are not larger than the one, and ordinary divisors not smaller than the other.
abbrev pub most_size : Float
most_size = of_bits binary64 0x44f0_0000_0000_0000

abbrev pub least_divisor : Float
least_divisor = of_bits binary64 0x3d70_0000_0000_0000

abbrev pub ordinary_size : Float → Bool
ordinary_size x = le (neg most_size) x && le x most_size

abbrev pub ordinary_divisor : Float → Bool
ordinary_divisor x = le least_divisor x

-- 0.3 and 0.7, the defaults of the method
abbrev pub three_tenths : Float
three_tenths = of_bits binary64 0x3fd3_3333_3333_3333

abbrev pub seven_tenths : Float
seven_tenths = of_bits binary64 0x3fe6_6666_6666_6666

-- neither a NaN nor an infinity
unfoldable pub finite : Float → Bool
finite nan = false
finite (inf s) = false
finite (fin s m e) = true

-- the number without its sign
unfoldable pub abs : Float → Float
abs nan = nan
abs (inf s) = inf false
abs (fin s m e) = fin false m e

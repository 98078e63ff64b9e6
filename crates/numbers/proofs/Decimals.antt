-- What the named numbers are worth: the whole numbers, halves and powers of two exactly, the others as the binary64 value nearest to the decimal.
use mathlib.Core.Bool.{false}
use mathlib.Core.Path.{◌≡◌, refl}
use Prim.Native.Nat.{ℕ, ◌^◌}
use lib.Ieee.{Float, binary64, of_bits, round}
use lib.Ieee.Exact.{HasValue}
use Rattle.numbers.specs.Words.{zero, half, one, three_halves, two, three, four, six, twenty_four, thirty_six, tiny, narrow, least_ratio, most_ratio, most_size, least_divisor, three_tenths, seven_tenths}

-- x is + a / c, exactly
abbrev Worth : Float → ℕ → ℕ → Type 0
Worth x a c = HasValue x false a c

pub exact : Worth zero 0 1 × Worth half 1 2 × Worth one 1 1 × Worth three_halves 3 2 × Worth two 2 1
    × Worth three 3 1 × Worth four 4 1 × Worth six 6 1 × Worth twenty_four 24 1 × Worth thirty_six 36 1
unfolding of_bits
exact = ((refl, refl), (refl, refl), (refl, refl), (refl, refl), (refl, refl), (refl, refl), (refl, refl), (refl, refl), (refl, refl), (refl, refl))

pub powers : Worth least_ratio 1 (2 ^ 60) × Worth most_ratio (2 ^ 60) 1 × Worth least_divisor 1 (2 ^ 40) × Worth most_size (2 ^ 80) 1
unfolding of_bits
powers = ((refl, refl), (refl, refl), (refl, refl), (refl, refl))

-- x is a / c rounded to the nearest binary64 value
abbrev Nearest : Float → ℕ → ℕ → Type 0
Nearest x a c = x ≡ round binary64 false a c

pub nearest : Nearest tiny 1 (10 ^ 14) × Nearest narrow 1 (10 ^ 12) × Nearest three_tenths 3 10 × Nearest seven_tenths 7 10
unfolding of_bits round
nearest = (refl, refl, refl, refl)

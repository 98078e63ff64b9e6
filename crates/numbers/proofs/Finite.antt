-- A finite number less itself is +0.0, and an infinity or a NaN less itself is a NaN: so `x - x == 0.0` tests for finiteness, as std's word does.
use Prim.Native.Nat.{ℕ, ◌*◌, ◌<◌}
use native.Mathlib.Nat.{le_refl, sub_self, zero-mul, mul-pos}
use mathlib.Core.Bool.{Bool, true, false, not}
use mathlib.Core.Path.{◌≡◌, refl}
use lib.IntN.{pos}
use lib.Dec.{lit<}
use borrow.Author.Tests.{le-ltb}
use lib.Ieee.{Float, nan, inf, fin, binary64, round, sum, add, sub, neg, eq, up, down, of_bits}
use lib.Ieee.Fits.{down_pos}
use lib.Ieee.Scale.{round_same}
use Rattle.std.specs.Float.{float_is_finite}
use Rattle.numbers.specs.Words.{◌⊖◌, zero, finite}

-- nothing rounds to nothing
pub round_zero : (s : Bool) (c : ℕ) → 0 < c → round binary64 s 0 c ≡ fin s 0 (pos 0)
unfolding round
round_zero s c h = round_same binary64 s 0 c 0 1 h (lit< tt) (simp zero-mul)

-- a / c less itself
pub sum_self : (s : Bool) (a c : ℕ) → 0 < c → sum binary64 s a (not s) a c ≡ fin false 0 (pos 0)
unfolding sum
sum_self true a c h = simp (le-ltb a a (le_refl a), sub_self) (round_zero false c h)
sum_self false a c h = simp (le-ltb a a (le_refl a), sub_self) (round_zero false c h)

pub finite_test : (x : Float) → eq (x ⊖ x) zero ≡ finite x
unfolding eq sub add neg of_bits finite
finite_test nan = refl
finite_test (inf true) = refl
finite_test (inf false) = refl
finite_test (fin s m e) = rw (sum_self s (m * up e * down e) (down e * down e) (mul-pos (down_pos e) (down_pos e)))

-- std's word says the same
pub std_finite : (x : Float) → float_is_finite x ≡ finite x
unfolding float_is_finite finite
std_finite nan = refl
std_finite (inf s) = refl
std_finite (fin s m e) = refl

-- What a comparison with 0.0 says of a number, case by case.
use Prim.Native.Nat as nat
use Prim.Native.Nat.{ℕ, suc, ◌+◌, ◌*◌, ◌^◌, ◌<◌}
use native.Mathlib.Nat.{mul-one, zero-mul, zero-lt-suc, mul-pos, pow-suc}
use native.Mathlib.Omega.{arith}
use mathlib.Core.Bool.{Bool, true, false}
use mathlib.Core.Path.{◌≡◌, refl, sym, ap}
use lib.IntN.{ℤ, pos, negsuc}
use lib.Dec.{T, eqb, eqb→eq}
use lib.Pow.{pow_pos}
use borrow.Author.Tests.{eq-eqb, ne_eqb, lt-ltb, le-ltb}
use lib.Ieee.{Float, nan, inf, fin, binary64, lt, eq, neg, up, down, of_bits, fits}
use lib.Ieee.Fits.{up_pos}
use Rattle.std.specs.Float.{float_with_sign}
use Rattle.numbers.specs.Words.{zero, abs}

-- a number that fits and is zero has the exponent 0
pub zero_exponent : (e : ℤ) → T (eqb (up e * down e) 1) → e ≡ pos 0
zero_exponent (pos nat.zero) h = refl
zero_exponent (pos (suc k)) h = absurd (let q : 2 ^ suc k * 1 ≡ 1 = eqb→eq (2 ^ suc k * 1) 1 h in omega (arith, pow-suc 2 k, pow_pos k))
zero_exponent (negsuc k) h = absurd (let q : 1 * 2 ^ suc k ≡ 1 = eqb→eq (1 * 2 ^ suc k) 1 h in omega (arith, pow-suc 2 k, pow_pos k))

-- the magnitude of a number that is not zero, as a comparison with 0.0 has it
pub magnitude_pos : (m : ℕ) (e : ℤ) → 0 < suc m * up e * 1
magnitude_pos m e = rw mul-one (mul-pos (zero-lt-suc m) (up_pos e))

-- the four comparisons of a finite number with 0.0
pub zero_is_zero : (s : Bool) (e : ℤ) → eq (fin s 0 e) zero ≡ true
unfolding eq of_bits
zero_is_zero true e = simp (zero-mul, eq-eqb 0 0 refl)
zero_is_zero false e = simp (zero-mul, eq-eqb 0 0 refl)

pub nonzero_is_not : (s : Bool) (m : ℕ) (e : ℤ) → eq (fin s (suc m) e) zero ≡ false
unfolding eq of_bits
nonzero_is_not s m e = simp (ne_eqb (suc m * up e * 1) (0 * 1 * down e) (λ q. omega (arith, magnitude_pos m e)))

pub minus_is_below : (m : ℕ) (e : ℤ) → lt (fin true (suc m) e) zero ≡ true
unfolding lt of_bits
minus_is_below m e = lt-ltb 0 (suc m * up e * 1 + 0 * 1 * down e) (omega (arith, magnitude_pos m e))

pub plus_is_not_below : (m : ℕ) (e : ℤ) → lt (fin false m e) zero ≡ false
unfolding lt of_bits
plus_is_not_below m e = le-ltb (m * up e * 1) (0 * 1 * down e) (omega arith)

pub abs_below : (x : Float) → lt x zero ≡ true → neg x ≡ abs x
unfolding lt of_bits neg abs
abs_below nan h = refl
abs_below (inf true) h = refl
abs_below (inf false) h = cc
abs_below (fin true m e) h = refl
abs_below (fin false m e) h = cc (plus_is_not_below m e)

pub abs_zero : (x : Float) → T (fits binary64 x) → eq x zero ≡ true → zero ≡ abs x
unfolding eq of_bits abs fits
abs_zero nan f h = cc
abs_zero (inf s) f h = cc
abs_zero (fin s nat.zero e) f h = ap (λ (d : ℤ). fin false 0 d) (sym (zero_exponent e f))
abs_zero (fin s (suc m) e) f h = cc (nonzero_is_not s m e)

pub abs_above : (x : Float) → lt x zero ≡ false → eq x zero ≡ false → x ≡ abs x
unfolding lt of_bits abs
abs_above nan h k = refl
abs_above (inf true) h k = cc
abs_above (inf false) h k = refl
abs_above (fin false m e) h k = refl
abs_above (fin true nat.zero e) h k = cc (zero_is_zero true e)
abs_above (fin true (suc m) e) h k = cc (minus_is_below m e)

-- std's word says the same
pub std_abs : (x : Float) → float_with_sign false x ≡ abs x
unfolding float_with_sign abs
std_abs nan = refl
std_abs (inf s) = refl
std_abs (fin s m e) = refl

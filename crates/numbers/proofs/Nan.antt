-- The one NaN: the patterns that are read as it, and the number that differs from itself.
use Prim.Native.Nat.{ℕ, ◌%◌, ◌^◌, ◌*◌, ◌<◌, ◌≤◌}
use mathlib.Core.Bool.{Bool, true, false, not}
use mathlib.Core.Path.{◌≡◌, refl, sym, ap, subst, ◌∙◌}
use lib.Dec.{T}
use borrow.Author.Tests.{lt-ltb, le-ltb, eq-eqb}
use lib.Ieee.{Float, nan, inf, fin, binary64, ne, eq, level, up, down, is_nan, nan_bits, of_bits, to_bits}
use lib.Ieee.Bits.{nan_bits_is, nan_bits_above}
use Rattle.numbers.specs.Words.{finite}
use Rattle.numbers.proofs.Ways.{never}

-- a pattern above that of infinity, its sign aside
pub pattern_nan : (b : ℕ) → 2047 * 2 ^ 52 < b % 2 ^ 63 → nan_bits binary64 b ≡ true
pattern_nan b h = nan_bits_above binary64 b ∙ lt-ltb (2047 * 2 ^ 52) (b % 2 ^ 63) h

pub pattern_number : (b : ℕ) → b % 2 ^ 63 ≤ 2047 * 2 ^ 52 → nan_bits binary64 b ≡ false
pattern_number b h = nan_bits_above binary64 b ∙ le-ltb (2047 * 2 ^ 52) (b % 2 ^ 63) h

pub is_nan_lem : (x : Float) → is_nan x ≡ true → nan ≡ x
unfolding is_nan
is_nan_lem nan h = refl
is_nan_lem (inf s) h = never h refl
is_nan_lem (fin s m e) h = never h refl

pub read_as_nan : (b : ℕ) → 2047 * 2 ^ 52 < b % 2 ^ 63 → nan ≡ of_bits binary64 b
read_as_nan b h = is_nan_lem (of_bits binary64 b) (sym (nan_bits_is binary64 b) ∙ pattern_nan b h)

-- a pattern that is not above that of infinity is that of a number
pub read_as_number : (b : ℕ) → b % 2 ^ 63 ≤ 2047 * 2 ^ 52 → T (not (nan_bits binary64 b))
read_as_number b h = subst (λ (t : Bool). T (not t)) (sym (pattern_number b h)) tt

-- the bits of the NaN
pub bits_of_nan : (x : Float) → is_nan x ≡ true → 0x7ff8000000000000 ≡ to_bits binary64 x
unfolding to_bits
bits_of_nan x h = ap (to_bits binary64) (is_nan_lem x h)

-- a number that equals itself is no NaN
pub same_number : (x : Float) → ne x x ≡ false → T (not (is_nan x))
unfolding is_nan ne eq
same_number nan h = never refl h
same_number (inf s) h = tt
same_number (fin s m e) h = tt

self_equal : (s : Bool) (m : ℕ) → level s m s m ≡ true
self_equal true m = rw (eq-eqb m m refl)
self_equal false m = rw (eq-eqb m m refl)

-- a finite number is no NaN
pub not_nan : (q : Float) → finite q ≡ true → ne q q ≡ false
unfolding finite ne eq
not_nan nan h = never h refl
not_nan (inf s) h = never h refl
not_nan (fin s m e) h = ap not (self_equal s (m * up e * down e))

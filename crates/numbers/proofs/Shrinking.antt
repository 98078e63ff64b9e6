-- The order of the factors does not count in a product, and a product with a ratio from 0 to 1 stays between 0 and the other factor.
use Prim.Native.Nat as nat
use Prim.Native.Nat.{ℕ, suc, ◌+◌, ◌*◌, ◌≤◌}
use native.Mathlib.Omega.{arith}
use native.Mathlib.Nat.{mul_comm, mul_assoc, mul-pos, mul-one, one-mul, mul-zero, zero-mul, add-zero, zero-add, mul-le-mul_left, mul-le-mul_right}
use mathlib.Core.Bool.{Bool, true, false}
use mathlib.Core.Path.{◌≡◌, refl}
use borrow.Author.Tests.{ltb-true, ne_eqb}
use lib.IntN.{ℤ, pos}
use lib.Dec.{T, lit<}
use lib.Ieee.{Float, nan, inf, fin, binary64, unlike, round, mul, lt, le, up, down, of_bits, fits}
use lib.Ieee.Fits.{down_pos}
use Rattle.numbers.specs.Words.{◌⊗◌, zero, one, finite}
use Rattle.numbers.proofs.Ways.{never}
use Rattle.numbers.proofs.AtMost.{plus, less, le_at_most, le_of_below}
use Rattle.numbers.proofs.Rounding.{Rounded, rounds, rounded_mono, zero_rounded, own_above}

-- the two factors may change places
unlike_comm : (s t : Bool) → unlike s t ≡ unlike t s
unlike_comm true true = refl
unlike_comm true false = refl
unlike_comm false true = refl
unlike_comm false false = refl

pub product_comm : (x y : Float) → x ⊗ y ≡ y ⊗ x
unfolding mul
product_comm nan nan = refl
product_comm nan (inf t) = refl
product_comm nan (fin t n d) = refl
product_comm (inf s) nan = refl
product_comm (inf s) (inf t) = rw (unlike_comm s t)
product_comm (inf s) (fin t n d) = rw (unlike_comm s t)
product_comm (fin s m e) nan = refl
product_comm (fin s m e) (inf t) = rw (unlike_comm s t)
product_comm (fin s m e) (fin t n d) = rw (unlike_comm s t, mul_comm (m * up e) (n * up d), mul_comm (down e) (down d))

-- the law of signs, for the parts of a product above and under 0
pub plus_product : (s t : Bool) (a b : ℕ) → plus (unlike s t) (a * b) ≡ plus s a * plus t b + less s a * less t b
plus_product true true a b = simp (zero-mul, zero-add)
plus_product true false a b = simp (zero-mul, mul-zero)
plus_product false true a b = simp (zero-mul, mul-zero)
plus_product false false a b = simp (mul-zero, add-zero)

pub less_product : (s t : Bool) (a b : ℕ) → less (unlike s t) (a * b) ≡ plus s a * less t b + less s a * plus t b
less_product true true a b = simp (zero-mul, mul-zero)
less_product true false a b = simp (zero-mul, zero-add)
less_product false true a b = simp (zero-mul, add-zero)
less_product false false a b = simp (mul-zero, zero-mul)

-- so a product of two fractions that are not below 0 has no part under 0
times_rounded : (s t : Bool) (a c b d : ℕ) → less s a ≡ 0 → less t b ≡ 0 → Rounded (round binary64 (unlike s t) (a * b) (c * d)) (plus s a * plus t b) 0 (c * d)
times_rounded s t a c b d z w =
    rounds (unlike s t) (a * b) (plus s a * plus t b) 0 (c * d) refl
    (rw (plus_product s t a b, less_product s t a b, z, w) (simp (mul-zero, zero-mul, add-zero)))

-- a number that is not below 0 has none either, and the part above 0 of one that is at most 1 is at most its divisor
flat : (s : Bool) (a : ℕ) → less s a ≤ plus s a → less s a ≡ 0
flat true a h = omega arith
flat false a h = refl

no_less : (s : Bool) (m : ℕ) (e : ℤ) → le zero (fin s m e) ≡ true → less s (m * up e) ≡ 0
unfolding of_bits
no_less s m e h = flat s (m * up e) (simp (mul-one, zero-mul, zero-add, add-zero) at (le_at_most false 0 (pos 0) s m e h))

most_plus : (s : Bool) (m : ℕ) (e : ℤ) → less s (m * up e) ≡ 0 → le (fin s m e) one ≡ true → plus s (m * up e) ≤ down e
unfolding of_bits
most_plus s m e z h = omega (arith, simp (mul-one, one-mul, zero-mul, add-zero) at (le_at_most s m e false 1 (pos 0) h))

smaller : (a b c d : ℕ) → b ≤ d → a * b * c ≤ a * (c * d)
smaller a b c d h = rw (mul_assoc a b c, mul_comm c d) (mul-le-mul_left a (mul-le-mul_right c h))

-- a product with a ratio lies between 0 and the other factor
shrunk : (x r : Float) → finite x ≡ true → le zero x ≡ true → le zero r ≡ true → le r one ≡ true
    → (le zero (x ⊗ r) ≡ true) × (T (fits binary64 x) → le (x ⊗ r) x ≡ true)
unfolding finite le mul of_bits
shrunk nan r f h k l = never f refl
shrunk (inf s) r f h k l = never f refl
shrunk (fin s m e) nan f h k l = never k refl
shrunk (fin s m e) (inf true) f h k l = never k refl
shrunk (fin s m e) (inf false) f h k l = never l refl
shrunk (fin s m e) (fin t n d) f h k l =
    let z = no_less s m e h in
    let w = no_less t n d k in
    let p = mul-pos (down_pos e) (down_pos d) in
    let r = times_rounded s t (m * up e) (down e) (n * up d) (down d) z w in (
      rounded_mono zero_rounded r (lit< tt) p (omega arith),
      λ g. own_above s m e g r p (simp (z, zero-mul, add-zero) (smaller (plus s (m * up e)) (plus t (n * up d)) (down e) (down d) (most_plus t n d w l))),
    )

pub product_from_zero : (x r : Float) → finite x ≡ true → le zero x ≡ true → le zero r ≡ true → le r one ≡ true → le zero (x ⊗ r) ≡ true
product_from_zero x r f h k l = (shrunk x r f h k l).0

pub shrinks_finite : (x r : Float) → T (fits binary64 x) → finite x ≡ true → le zero x ≡ true → le zero r ≡ true → le r one ≡ true → le (x ⊗ r) x ≡ true
shrinks_finite x r g f h k l = (shrunk x r f h k l).1 g

-- so it is finite
pub between_finite : (x y : Float) → finite y ≡ true → le zero x ≡ true → le x y ≡ true → finite x ≡ true
unfolding finite le of_bits
between_finite nan y f h k = h
between_finite (inf true) y f h k = h
between_finite (inf false) nan f h k = f
between_finite (inf false) (inf t) f h k = f
between_finite (inf false) (fin t n d) f h k = k
between_finite (fin s m e) y f h k = refl

pub product_finite : (x r : Float) → T (fits binary64 x) → finite x ≡ true → le zero x ≡ true → le zero r ≡ true → le r one ≡ true → finite (x ⊗ r) ≡ true
product_finite x r g f h k l = between_finite (x ⊗ r) x f (product_from_zero x r f h k l) (shrinks_finite x r g f h k l)

-- an infinity stays itself under a ratio that is above 0
infinite : (t : Bool) (n : ℕ) (d : ℤ) → lt zero (fin t n d) ≡ true → inf false ⊗ fin t n d ≡ inf false
unfolding lt mul of_bits
infinite true n d h = never h refl
infinite false nat.zero d h = absurd (omega (arith, ltb-true (0 * 1 * down d) (0 * up d * 1) h))
infinite false (suc n) d h = simp (ne_eqb (suc n) 0 (λ e. omega arith))

pub shrinks : (x r : Float) → T (fits binary64 x) → le zero x ≡ true → lt zero r ≡ true → le r one ≡ true → le (x ⊗ r) x ≡ true
unfolding finite lt le of_bits
shrinks nan r g h k l = never h refl
shrinks (inf true) r g h k l = never h refl
shrinks (inf false) nan g h k l = never k refl
shrinks (inf false) (inf true) g h k l = never k refl
shrinks (inf false) (inf false) g h k l = never l refl
shrinks (inf false) (fin t n d) g h k l = rw (infinite t n d k)
shrinks (fin s m e) r g h k l = shrinks_finite (fin s m e) r g refl h (le_of_below zero r k) l

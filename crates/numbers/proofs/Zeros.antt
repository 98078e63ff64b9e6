-- Zeros of either sign, and what they make of sums, products and quotients.
use Prim.Native.Nat as nat
use Prim.Native.Nat.{ℕ, ◌+◌, ◌-◌, ◌*◌, ◌<◌}
use native.Mathlib.Omega.{arith}
use native.Mathlib.Nat.{zero-mul, mul-zero, mul-pos}
use mathlib.Core.Bool.{Bool, true, false, not}
use mathlib.Core.Path.{◌≡◌, refl, ap, ◌∙◌}
use borrow.Author.Tests.{le-ltb, ne_eqb}
use lib.IntN.{ℤ, pos}
use lib.Ieee.{Float, nan, inf, fin, binary64, round, sum, unlike, neg, add, sub, mul, div, le, up, down, of_bits}
use lib.Ieee.Fits.{down_pos, up_pos}
use Rattle.numbers.specs.Words.{◌⊕◌, ◌⊖◌, ◌⊗◌, ◌⊘◌, zero, finite}
use Rattle.numbers.proofs.Ways.{never}
use Rattle.numbers.proofs.Finite.{round_zero}
use Rattle.numbers.proofs.AtMost.{le_on}
use Rattle.numbers.proofs.Shrinking.{product_comm}
use Rattle.numbers.proofs.Bounds.{Within, Low, low_part}
use Rattle.numbers.proofs.Ratios.{zero_level}

-- 0.0 or -0.0
pub record Zero (z : Float) : Type 0 where
  pub sign : Bool
  pub power : ℤ
  pub is : z ≡ fin sign 0 power

pub zero_zero : Zero zero
unfolding of_bits
zero_zero = record { sign = false; power = pos 0; is = refl }

pub zero_small : {z : Float} → Zero z → Within 0 z
zero_small v = record { sign = v.sign; part = 0; power = v.power; is = v.is; size = simp zero-mul nat.zero-le }

-- nothing divided by something is rounded to a zero
none_zero : (s : Bool) (a c : ℕ) → a ≡ 0 → 0 < c → Zero (round binary64 s a c)
none_zero s a c e C = record { sign = s; power = pos 0; is = ap (λ (k : ℕ). round binary64 s k c) e ∙ round_zero s c C }

-- ---- the operations
times_zero : (s : Bool) (m : ℕ) (e : ℤ) {z : Float} → Zero z → Zero (fin s m e ⊗ z)
unfolding mul
times_zero s m e v =
    rw v.is
    (none_zero (unlike s v.sign) (m * up e * (0 * up v.power)) (down e * down v.power) (simp (zero-mul, mul-zero)) (mul-pos (down_pos e) (down_pos v.power)))

pub product_zero : {k : ℕ} {x z : Float} → Within k x → Zero z → Zero (x ⊗ z)
product_zero w v = rw w.is (times_zero w.sign w.part w.power v)

pub zero_product : {k : ℕ} {x z : Float} → Zero z → Within k x → Zero (z ⊗ x)
zero_product {k} {x} {z} v w = rw (product_comm z x) (product_zero w v)

-- of any finite number
pub finite_product_zero : {z : Float} (x : Float) → Zero z → finite x ≡ true → Zero (z ⊗ x)
unfolding finite
finite_product_zero nan v f = never f refl
finite_product_zero (inf s) v f = never f refl
finite_product_zero {z} (fin s m e) v f = rw (product_comm z (fin s m e)) (times_zero s m e v)

pub quotient_zero : {j : ℕ} {y z : Float} → Zero z → Low j y → Zero (z ⊘ y)
unfolding div
quotient_zero v l =
    rw (v.is, l.is, ne_eqb l.part 0 (λ q. omega (arith, low_part l)))
    (none_zero (unlike v.sign false) (0 * up v.power * down l.power) (l.part * up l.power * down v.power)
    (simp zero-mul) (mul-pos (mul-pos (low_part l) (up_pos l.power)) (down_pos v.power)))

sum_none : (s t : Bool) (a b c : ℕ) → a ≡ 0 → b ≡ 0 → 0 < c → Zero (sum binary64 s a t b c)
unfolding sum
sum_none true true a b c p q C = none_zero true (a + b) c (omega arith) C
sum_none false false a b c p q C = none_zero false (a + b) c (omega arith) C
sum_none true false a b c p q C = simp (le-ltb a b (omega arith), le-ltb b a (omega arith)) (none_zero false (a - b) c (omega arith) C)
sum_none false true a b c p q C = simp (le-ltb a b (omega arith)) (none_zero false (a - b) c (omega arith) C)

pub sum_zero : {y z : Float} → Zero y → Zero z → Zero (y ⊕ z)
unfolding add
sum_zero u v =
    rw (u.is, v.is)
    (sum_none u.sign v.sign (0 * up u.power * down v.power) (0 * up v.power * down u.power) (down u.power * down v.power)
    (simp zero-mul) (simp zero-mul) (mul-pos (down_pos u.power) (down_pos v.power)))

pub difference_zero : {y z : Float} → Zero y → Zero z → Zero (y ⊖ z)
unfolding sub neg
difference_zero u v = sum_zero u (record { sign = not v.sign; power = v.power; is = rw v.is })

-- a zero is at most what is at or above 0
pub zero_most : {z : Float} (x : Float) → Zero z → le zero x ≡ true → le z x ≡ true
zero_most {z} x v h = le_on z zero x (rw v.is (zero_level v.sign v.power).0) h

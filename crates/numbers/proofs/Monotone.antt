-- Of two numbers one is at most the other, and sums, products and quotients keep the order in each of their places.
use Prim.Native.Nat as nat
use Prim.Native.Nat.{ℕ, suc, ◌+◌, ◌-◌, ◌*◌, ◌≤◌, ◌<◌}
use native.Mathlib.Omega.{arith}
use native.Mathlib.Nat.{add_comm, mul_assoc, mul_comm, mul_left_comm, mul-one, zero-mul, mul-zero, add-zero, zero-add, add-mul, mul-pos, mul-le-mul_right, le_refl, zero-lt-suc}
use mathlib.Core.Bool.{Bool, true, false}
use mathlib.Core.Logic.{◌⊎◌, inl, inr, ⊎_elim}
use mathlib.Core.Path.{◌≡◌, refl, sym}
use lib.IntN.{ℤ}
use lib.Dec.{lit<}
use lib.Ieee.{Float, nan, inf, fin, binary64, sum, add, sub, mul, div, neg, unlike, below, lt, le, up, down}
use lib.Ieee.Fits.{down_pos, up_pos}
use borrow.Author.Tests.{ltb-false, ltb-true, lt-ltb, le-ltb, ne_eqb}
use Rattle.numbers.specs.Words.{◌⊕◌, ◌⊖◌, ◌⊗◌, ◌⊘◌, zero, finite}
use Rattle.numbers.proofs.Ways.{never, lt_or_le}
use Rattle.numbers.proofs.AtMost.{plus, less, le_at_most, at_most_le, le_on, test, plus_mul, less_mul}
use Rattle.numbers.proofs.Rounding.{Rounded, rounds, rounded_mono, zero_rounded}
use Rattle.numbers.proofs.Shrinking.{plus_product, less_product}
use Rattle.numbers.proofs.Sums.{sum_mono}
use Rattle.numbers.proofs.Bounds.{all_plus}

-- ---- which way round two numbers are
not_less : (s t : Bool) (a b : ℕ) → below s a t b ≡ false → plus t b + less s a ≤ plus s a + less t b
not_less false false a b h = omega (arith, ltb-false a b h)
not_less false true a b h = omega arith
not_less true false a b h = omega (arith, ltb-false 0 (a + b) h)
not_less true true a b h = omega (arith, ltb-false b a h)

is_less : (s t : Bool) (a b : ℕ) → below s a t b ≡ true → plus s a + less t b < plus t b + less s a
is_less false false a b h = omega (arith, ltb-true a b h)
is_less false true a b h = never h refl
is_less true false a b h = omega (arith, ltb-true 0 (a + b) h)
is_less true true a b h = omega (arith, ltb-true b a h)

-- a number that is no NaN is at most itself
pub finite_number : (x : Float) → finite x ≡ true → le x x ≡ true
unfolding finite
finite_number nan h = never h refl
finite_number (inf s) h = never h refl
finite_number (fin s m e) h = at_most_le s m e s m e (le_refl _)

pub not_below : (x y : Float) → le x x ≡ true → le y y ≡ true → lt x y ≡ false → le y x ≡ true
unfolding le lt
not_below nan y p q h = never p refl
not_below (inf s) nan p q h = q
not_below (inf true) (inf true) p q h = refl
not_below (inf true) (inf false) p q h = never refl h
not_below (inf false) (inf true) p q h = refl
not_below (inf false) (inf false) p q h = refl
not_below (inf true) (fin t n d) p q h = never refl h
not_below (inf false) (fin t n d) p q h = refl
not_below (fin s m e) nan p q h = q
not_below (fin s m e) (inf true) p q h = refl
not_below (fin s m e) (inf false) p q h = never refl h
not_below (fin s m e) (fin t n d) p q h = test t s (n * up d * down e) (m * up e * down d) (not_less s t (m * up e * down d) (n * up d * down e) h)

pub not_both : (x y : Float) {A : Type 0} → finite x ≡ true → finite y ≡ true → lt x y ≡ true → le y x ≡ true → A
unfolding finite lt
not_both nan y f g h k = never f refl
not_both (inf s) y f g h k = never f refl
not_both (fin s m e) nan f g h k = never g refl
not_both (fin s m e) (inf t) f g h k = never g refl
not_both (fin s m e) (fin t n d) f g h k =
    absurd
    (omega (
      arith,
      is_less s t (m * up e * down d) (n * up d * down e) h,
      le_at_most t n d s m e k,
      plus_mul s (m * up e) (down d),
      less_mul s (m * up e) (down d),
      plus_mul t (n * up d) (down e),
      less_mul t (n * up d) (down e),
    ))

either : (b : Bool) → (b ≡ true) ⊎ (b ≡ false)
either true = inl refl
either false = inr refl

-- what is below a number that is at most a third is below the third
pub lt_le : (x y z : Float) → finite x ≡ true → finite y ≡ true → finite z ≡ true → lt x y ≡ true → le y z ≡ true → lt x z ≡ true
lt_le x y z f g k h l =
    ⊎_elim (λ (p : lt x z ≡ true). p) (λ (p : lt x z ≡ false). not_both x y f g h (le_on y z x l (not_below x z (finite_number x f) (finite_number z k) p))) (either (lt x z))

pub le_lt : (x y z : Float) → finite x ≡ true → finite y ≡ true → finite z ≡ true → le x y ≡ true → lt y z ≡ true → lt x z ≡ true
le_lt x y z f g k h l =
    ⊎_elim (λ (p : lt x z ≡ true). p) (λ (p : lt x z ≡ false). not_both y z g k l (le_on z x y (not_below x z (finite_number x f) (finite_number z k) p) h)) (either (lt x z))

-- ---- sums
unlike_comm : (a b c : ℕ) → sum binary64 true a false b c ≡ sum binary64 false b true a c
unfolding sum
unlike_comm a b c =
    ⊎_elim
    (λ (l : a < b). simp (lt-ltb a b l, le-ltb b a (omega arith)))
    (λ (l : b ≤ a).
    ⊎_elim (λ (g : b < a). simp (lt-ltb b a g, le-ltb a b l)) (λ (g : a ≤ b). let e : a - b ≡ b - a = omega arith in simp (le-ltb a b l, le-ltb b a g, e)) (lt_or_le b a))
    (lt_or_le a b)

sums_comm : (s t : Bool) (a b c : ℕ) → sum binary64 s a t b c ≡ sum binary64 t b s a c
unfolding sum
sums_comm true true a b c = rw (add_comm a b)
sums_comm false false a b c = rw (add_comm a b)
sums_comm true false a b c = unlike_comm a b c
sums_comm false true a b c = sym (unlike_comm b a c)

pub sum_comm : (x y : Float) → x ⊕ y ≡ y ⊕ x
unfolding add
sum_comm nan nan = refl
sum_comm nan (inf t) = refl
sum_comm nan (fin t n d) = refl
sum_comm (inf s) nan = refl
sum_comm (inf true) (inf true) = refl
sum_comm (inf true) (inf false) = refl
sum_comm (inf false) (inf true) = refl
sum_comm (inf false) (inf false) = refl
sum_comm (inf s) (fin t n d) = refl
sum_comm (fin s m e) nan = refl
sum_comm (fin s m e) (inf t) = refl
sum_comm (fin s m e) (fin t n d) = rw (mul_comm (down d) (down e)) (sums_comm s t (m * up e * down d) (n * up d * down e) (down e * down d))

sum_mono_left : (x y z : Float) → finite z ≡ true → le x y ≡ true → le (x ⊕ z) (y ⊕ z) ≡ true
sum_mono_left x y z f h = rw (sum_comm x z, sum_comm y z) (sum_mono z x y f h)

pub difference_mono : (x y z : Float) → finite (neg z) ≡ true → le x y ≡ true → le (x ⊖ z) (y ⊖ z) ≡ true
unfolding sub
difference_mono x y z f h = sum_mono_left x y (neg z) f h

-- ---- a product with a number that is not below 0, and a quotient by one that is above it
times_rounded : (s : Bool) (m : ℕ) (e : ℤ) (t : Bool) (n : ℕ) (d : ℤ) → le zero (fin s m e) ≡ true
    → Rounded (fin s m e ⊗ fin t n d) (m * up e * plus t (n * up d)) (m * up e * less t (n * up d)) (down e * down d)
unfolding mul
times_rounded s m e t n d h =
    let a = all_plus s m e h in
    rounds (unlike s t) (m * up e * (n * up d)) _ _ (down e * down d) refl
    (simp (plus_product, less_product, a.0, a.1, zero-mul, add-zero))

pub over_rounded : (t : Bool) (n : ℕ) (d : ℤ) (m : ℕ) (e : ℤ)
    → Rounded (fin t n d ⊘ fin false (suc m) e) (plus t (n * up d) * down e) (less t (n * up d) * down e) (suc m * up e * down d)
unfolding div
over_rounded t n d m e =
    rounds (unlike t false) (n * up d * down e) _ _ (suc m * up e * down d) (rw (ne_eqb (suc m) 0 (λ q. omega arith))) (by t)
  where
    by : (t : Bool) → plus (unlike t false) (n * up d * down e) + less t (n * up d) * down e ≡ plus t (n * up d) * down e + less (unlike t false) (n * up d * down e)
    by true = omega (arith, zero-mul (down e))
    by false = omega (arith, zero-mul (down e))

multiplied : (c e x x' d y y' g : ℕ) → x * g + y' * d ≤ y * d + x' * g
    → c * x * (e * g) + c * y' * (e * d) ≤ c * y * (e * d) + c * x' * (e * g)
multiplied c e x x' d y y' g h =
    let more = simp (add-mul, mul_assoc, mul_comm, mul_left_comm) at (mul-le-mul_right (c * e) h) in
    simp (mul_assoc, mul_comm, mul_left_comm) (omega (arith, more))

pub product_mono : (c x y : Float) → finite c ≡ true → le zero c ≡ true → finite x ≡ true → finite y ≡ true → le x y ≡ true → le (c ⊗ x) (c ⊗ y) ≡ true
unfolding finite
product_mono nan x y f z g h l = never f refl
product_mono (inf s) x y f z g h l = never f refl
product_mono (fin s m e) nan y f z g h l = never g refl
product_mono (fin s m e) (inf t) y f z g h l = never g refl
product_mono (fin s m e) (fin t n d) nan f z g h l = never h refl
product_mono (fin s m e) (fin t n d) (inf u) f z g h l = never h refl
product_mono (fin s m e) (fin t n d) (fin u k i) f z g h l =
    rounded_mono (times_rounded s m e t n d z) (times_rounded s m e u k i z) (mul-pos (down_pos e) (down_pos d)) (mul-pos (down_pos e) (down_pos i))
    (multiplied (m * up e) (down e) (plus t (n * up d)) (less t (n * up d)) (down d) (plus u (k * up i)) (less u (k * up i)) (down i) (le_at_most t n d u k i l))

shared : (c e x x' d y y' g : ℕ) → x * g + y' * d ≤ y * d + x' * g → x * e * (c * g) + y' * e * (c * d) ≤ y * e * (c * d) + x' * e * (c * g)
shared c e x x' d y y' g h =
    let more = simp (add-mul, mul_assoc, mul_comm, mul_left_comm) at (mul-le-mul_right (c * e) h) in
    simp (mul_assoc, mul_comm, mul_left_comm) (omega (arith, more))

pub quotient_mono : (x y : Float) (m : ℕ) (e : ℤ) → finite x ≡ true → finite y ≡ true → le x y ≡ true → le (x ⊘ fin false (suc m) e) (y ⊘ fin false (suc m) e) ≡ true
unfolding finite
quotient_mono nan y m e f g h = never f refl
quotient_mono (inf s) y m e f g h = never f refl
quotient_mono (fin t n d) nan m e f g h = never g refl
quotient_mono (fin t n d) (inf u) m e f g h = never g refl
quotient_mono (fin t n d) (fin u k i) m e f g h =
    rounded_mono (over_rounded t n d m e) (over_rounded u k i m e)
    (mul-pos (mul-pos (zero-lt-suc m) (up_pos e)) (down_pos d)) (mul-pos (mul-pos (zero-lt-suc m) (up_pos e)) (down_pos i))
    (shared (suc m * up e) (down e) (plus t (n * up d)) (less t (n * up d)) (down d) (plus u (k * up i)) (less u (k * up i)) (down i) (le_at_most t n d u k i h))

pub product_plus : (x y : Float) → finite x ≡ true → finite y ≡ true → le zero x ≡ true → le zero y ≡ true → le zero (x ⊗ y) ≡ true
unfolding finite
product_plus nan y f g h l = never f refl
product_plus (inf s) y f g h l = never f refl
product_plus (fin s m e) nan f g h l = never g refl
product_plus (fin s m e) (inf t) f g h l = never g refl
product_plus (fin s m e) (fin t n d) f g h l =
    rounded_mono zero_rounded (times_rounded s m e t n d h) (lit< tt) (mul-pos (down_pos e) (down_pos d))
    (simp ((all_plus t n d l).1, mul-zero, zero-mul, add-zero, zero-add, mul-one) nat.zero-le)

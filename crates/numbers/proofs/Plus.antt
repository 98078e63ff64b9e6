-- The signs of sums, products and quotients. A number without a minus sign is at or above 0, or a NaN; what is made of such numbers has none either.
use Prim.Native.Nat as nat
use Prim.Native.Nat.{ℕ, suc, ◌+◌, ◌-◌, ◌*◌, ◌^◌, ◌≤◌, ◌<◌, zero-le}
use native.Mathlib.Omega.{arith}
use native.Mathlib.Nat.{zero-mul, mul-zero, mul-one, mul-pos}
use mathlib.Core.Bool.{Bool, true, false, not, ◌&&◌, cond}
use mathlib.Core.Path.{◌≡◌, refl, ap, ◌∙◌}
use borrow.Author.Tests.{lt-ltb, le-ltb, ltb-true}
use lib.IntN.{pos}
use lib.Dec.{ltb, eqb}
use lib.Ieee.{Float, nan, inf, fin, Format, binary64, prec, emax, low, odd, units, round, neg, sum, add, sub, mul, div, lt, le, eq, up, down, of_bits}
use lib.Ieee.Fits.{round_is, down_pos}
use Rattle.numbers.specs.Words.{◌⊕◌, ◌⊖◌, ◌⊗◌, ◌⊘◌, zero}
use Rattle.numbers.proofs.Ways.{never, of_both}
use Rattle.numbers.proofs.AtMost.{le_at_most}
use Rattle.numbers.proofs.Finite.{round_zero}
use Rattle.numbers.proofs.Signs.{plus_is_not_below, minus_is_below}

-- no minus sign; a NaN has none
unfoldable pub is_plus : Float → Bool
is_plus nan = true
is_plus (inf s) = not s
is_plus (fin s m e) = not s

-- rounding hands on the sign
odd_sign : (d : ℕ) (s : Bool) (q k l : ℕ) → is_plus (odd d s q k l) ≡ not s
unfolding is_plus odd
odd_sign d s nat.zero k l = refl
odd_sign d s (suc q) k l = refl

units_sign : (f : Format) (s : Bool) (q k : ℕ) → is_plus (units f s q k) ≡ not s
unfolding is_plus units
units_sign f s q k = by (ltb (q * 2 ^ k) (2 ^ (low f + suc (emax f))))
  where
    by : (b : Bool) → is_plus (cond b (odd (suc (prec f)) s q k (low f)) (inf s)) ≡ not s
    by true = odd_sign (suc (prec f)) s q k (low f)
    by false = refl

pub round_sign : (s : Bool) (a b : ℕ) → is_plus (round binary64 s a b) ≡ not s
round_sign s a b = ap is_plus (round_is binary64 s a b) ∙ units_sign binary64 s _ _

-- a test between a NaN and an infinity without a minus sign
nan_or_inf : (b : Bool) → is_plus (cond b nan (inf false)) ≡ true
unfolding is_plus
nan_or_inf true = refl
nan_or_inf false = refl

pub sum_plus : (x y : Float) → is_plus x ≡ true → is_plus y ≡ true → is_plus (x ⊕ y) ≡ true
unfolding is_plus add sum
sum_plus nan y p q = refl
sum_plus (inf true) y p q = never p refl
sum_plus (inf false) nan p q = refl
sum_plus (inf false) (inf true) p q = never q refl
sum_plus (inf false) (inf false) p q = refl
sum_plus (inf false) (fin t n d) p q = refl
sum_plus (fin true m e) y p q = never p refl
sum_plus (fin false m e) nan p q = refl
sum_plus (fin false m e) (inf t) p q = q
sum_plus (fin false m e) (fin true n d) p q = never q refl
sum_plus (fin false m e) (fin false n d) p q = round_sign false (m * up e * down d + n * up d * down e) (down e * down d)

pub product_plus : (x y : Float) → is_plus x ≡ true → is_plus y ≡ true → is_plus (x ⊗ y) ≡ true
unfolding is_plus mul
product_plus nan y p q = refl
product_plus (inf true) y p q = never p refl
product_plus (inf false) nan p q = refl
product_plus (inf false) (inf true) p q = never q refl
product_plus (inf false) (inf false) p q = refl
product_plus (inf false) (fin true n d) p q = never q refl
product_plus (inf false) (fin false n d) p q = nan_or_inf (eqb n 0)
product_plus (fin true m e) y p q = never p refl
product_plus (fin false m e) nan p q = refl
product_plus (fin false m e) (inf true) p q = never q refl
product_plus (fin false m e) (inf false) p q = nan_or_inf (eqb m 0)
product_plus (fin false m e) (fin true n d) p q = never q refl
product_plus (fin false m e) (fin false n d) p q = round_sign false (m * up e * (n * up d)) (down e * down d)

pub quotient_plus : (x y : Float) → is_plus x ≡ true → is_plus y ≡ true → is_plus (x ⊘ y) ≡ true
unfolding is_plus div
quotient_plus nan y p q = refl
quotient_plus (inf true) y p q = never p refl
quotient_plus (inf false) nan p q = refl
quotient_plus (inf false) (inf t) p q = refl
quotient_plus (inf false) (fin true n d) p q = never q refl
quotient_plus (inf false) (fin false n d) p q = refl
quotient_plus (fin true m e) y p q = never p refl
quotient_plus (fin false m e) nan p q = refl
quotient_plus (fin false m e) (inf true) p q = never q refl
quotient_plus (fin false m e) (inf false) p q = refl
quotient_plus (fin false m e) (fin true n d) p q = never q refl
quotient_plus (fin false m e) (fin false n d) p q = by (eqb n 0) (eqb m 0)
  where
    by : (a b : Bool) → is_plus (cond a (cond b nan (inf false)) (round binary64 false (m * up e * down d) (n * up d * down e))) ≡ true
    by true b = nan_or_inf b
    by false b = round_sign false (m * up e * down d) (n * up d * down e)

-- a number less one that is below it
pub difference_plus : (x y : Float) → lt x y ≡ true → is_plus (y ⊖ x) ≡ true
unfolding is_plus lt sub add neg sum
difference_plus nan y h = never h refl
difference_plus (inf s) nan h = never h refl
difference_plus (inf true) (inf true) h = never h refl
difference_plus (inf true) (inf false) h = refl
difference_plus (inf false) (inf t) h = never h refl
difference_plus (inf true) (fin t n d) h = refl
difference_plus (inf false) (fin t n d) h = never h refl
difference_plus (fin s m e) nan h = never h refl
difference_plus (fin s m e) (inf true) h = never h refl
difference_plus (fin s m e) (inf false) h = refl
difference_plus (fin false m e) (fin true n d) h = never h refl
difference_plus (fin true m e) (fin false n d) h = round_sign false (n * up d * down e + m * up e * down d) (down d * down e)
difference_plus (fin false m e) (fin false n d) h =
    let l = ltb-true (m * up e * down d) (n * up d * down e) h in
    simp (le-ltb (n * up d * down e) (m * up e * down d) (omega (arith, l))) (round_sign false (n * up d * down e - m * up e * down d) (down d * down e))
difference_plus (fin true m e) (fin true n d) h =
    let l = ltb-true (n * up d * down e) (m * up e * down d) h in
    simp (lt-ltb (n * up d * down e) (m * up e * down d) l) (round_sign false (m * up e * down d - n * up d * down e) (down d * down e))

-- Not below 0: without a minus sign, or a zero with one.
pub plus_not_below : (x : Float) → is_plus x ≡ true → lt x zero ≡ false
unfolding is_plus lt of_bits
plus_not_below nan p = refl
plus_not_below (inf true) p = never p refl
plus_not_below (inf false) p = refl
plus_not_below (fin true m e) p = never p refl
plus_not_below (fin false m e) p = plus_is_not_below m e

pub zero_not_under : lt zero zero ≡ false
unfolding lt of_bits
zero_not_under = refl

pub not_under : (x : Float) → le zero x ≡ true → lt x zero ≡ false
unfolding lt le eq of_bits
not_under nan h = refl
not_under (inf true) h = never h refl
not_under (inf false) h = refl
not_under (fin false m e) h = plus_is_not_below m e
not_under (fin true m e) h = le-ltb 0 (m * up e * 1 + 0 * down e) (omega (arith, simp (mul-one, zero-mul) at (le_at_most false 0 (pos 0) true m e h)))

zero_not_below : (s : Bool) → lt (fin s 0 (pos 0)) zero ≡ false
unfolding lt of_bits
zero_not_below true = refl
zero_not_below false = refl

-- a number without a minus sign times one that is not below 0, and the sum of two that are not
pub product_not_below : (x y : Float) → is_plus x ≡ true → lt y zero ≡ false → lt (x ⊗ y) zero ≡ false
unfolding is_plus lt mul of_bits
product_not_below x nan p q = plus_not_below (x ⊗ nan) (product_plus x nan p refl)
product_not_below x (inf true) p q = never refl q
product_not_below x (inf false) p q = plus_not_below (x ⊗ inf false) (product_plus x (inf false) p refl)
product_not_below x (fin false n d) p q = plus_not_below (x ⊗ fin false n d) (product_plus x (fin false n d) p refl)
product_not_below x (fin true (suc n) d) p q = never (minus_is_below n d) q
product_not_below nan (fin true nat.zero d) p q = refl
product_not_below (inf true) (fin true nat.zero d) p q = never p refl
product_not_below (inf false) (fin true nat.zero d) p q = refl
product_not_below (fin true m e) (fin true nat.zero d) p q = never p refl
product_not_below (fin false m e) (fin true nat.zero d) p q =
    rw (zero-mul (up d), mul-zero (m * up e), round_zero true (down e * down d) (mul-pos (down_pos e) (down_pos d))) (zero_not_below true)

-- a zero with a minus sign and a number without one
zero_and_plus : (b c : ℕ) → lt (cond (ltb 0 b) (round binary64 false (b - 0) c) (round binary64 (true && ltb b 0) (0 - b) c)) zero ≡ false
zero_and_plus b c =
    rw (le-ltb b 0 zero-le)
    (of_both (λ (x : Float). lt x zero ≡ false) (ltb 0 b) _ _ (plus_not_below _ (round_sign false (b - 0) c)) (plus_not_below _ (round_sign false (0 - b) c)))

plus_and_zero : (a c : ℕ) → lt (cond (ltb a 0) (round binary64 true (0 - a) c) (round binary64 false (a - 0) c)) zero ≡ false
plus_and_zero a c = rw (le-ltb a 0 zero-le) (plus_not_below _ (round_sign false (a - 0) c))

pub sum_not_under : (x y : Float) → lt x zero ≡ false → lt y zero ≡ false → lt (x ⊕ y) zero ≡ false
unfolding is_plus lt add sum of_bits
sum_not_under nan y p q = refl
sum_not_under (inf true) y p q = never refl p
sum_not_under (inf false) nan p q = refl
sum_not_under (inf false) (inf true) p q = never refl q
sum_not_under (inf false) (inf false) p q = refl
sum_not_under (inf false) (fin t n d) p q = refl
sum_not_under (fin s m e) nan p q = refl
sum_not_under (fin s m e) (inf true) p q = never refl q
sum_not_under (fin s m e) (inf false) p q = refl
sum_not_under (fin true (suc m) e) (fin t n d) p q = never (minus_is_below m e) p
sum_not_under (fin false m e) (fin false n d) p q = plus_not_below (fin false m e ⊕ fin false n d) (sum_plus (fin false m e) (fin false n d) refl refl)
sum_not_under (fin false m e) (fin true (suc n) d) p q = never (minus_is_below n d) q
sum_not_under (fin true nat.zero e) (fin false n d) p q = rw (zero-mul (up e), zero-mul (down d)) (zero_and_plus (n * up d * down e) (down e * down d))
sum_not_under (fin false m e) (fin true nat.zero d) p q = rw (zero-mul (up d), zero-mul (down e)) (plus_and_zero (m * up e * down d) (down e * down d))
sum_not_under (fin true nat.zero e) (fin true (suc n) d) p q = never (minus_is_below n d) q
sum_not_under (fin true nat.zero e) (fin true nat.zero d) p q =
    rw (zero-mul (up e), zero-mul (down d), zero-mul (up d), zero-mul (down e), round_zero true (down e * down d) (mul-pos (down_pos e) (down_pos d))) (zero_not_below true)

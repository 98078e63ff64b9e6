-- Ratios from 0 to 1, signs of products and quotients, and what is no NaN.
use Prim.Native.Nat as nat
use Prim.Native.Nat.{ℕ, suc, ◌+◌, ◌*◌, ◌^◌, ◌≤◌, ◌<◌}
use native.Mathlib.Omega.{arith}
use native.Mathlib.Nat.{mul_assoc, mul_comm, mul_left_comm, mul-one, one-mul, zero-mul, add-zero, zero-add, mul-pos, mul-le-mul_right, le_of_mul-le-mul_right, le_refl, le_trans, zero-lt-suc}
use mathlib.Core.Bool.{Bool, true, false, not}
use mathlib.Core.Path.{◌≡◌, refl, sym, ap, ◌∙◌}
use lib.IntN.{ℤ, pos, negsuc}
use lib.Dec.{T, ltb, lit<, lit≤}
use lib.Ieee.{Float, nan, inf, fin, binary64, round, add, sub, mul, div, neg, unlike, lt, eq, le, up, down, of_bits, fits}
use lib.Ieee.Fits.{down_pos, up_pos}
use borrow.Author.Tests.{eq-eqb, ne_eqb, lt-ltb, ltb-true}
use Rattle.numbers.specs.Words.{◌⊖◌, ◌⊗◌, ◌⊘◌, zero, half, one, two, three, four, six, narrow, least_ratio, most_ratio, ordinary_ratio, finite}
use Rattle.numbers.proofs.Ways.{never}
use Rattle.numbers.proofs.Every.{and_split}
use Rattle.numbers.proofs.Signs.{magnitude_pos}
use Rattle.numbers.proofs.Order.{lt_on}
use Rattle.numbers.proofs.AtMost.{plus, less, AtMost, le_at_most, at_most_le, le_on, le_neg, le_of_below}
use Rattle.numbers.proofs.Rounding.{rounds, rounded_mono, zero_rounded, own_above, round_neg, round_signed}
use Rattle.numbers.proofs.Shrinking.{between_finite}
use Rattle.numbers.proofs.Sums.{difference_anti}
use Rattle.numbers.proofs.Finite.{sum_self}
use Rattle.numbers.proofs.Bounds.{Within, Low, within_finite, quotient_within, all_plus}
use Rattle.numbers.proofs.Monotone.{over_rounded, difference_mono, not_both}
use Rattle.numbers.proofs.Low.{Above, above, small, small_low, low_up}

-- ---- the numbers of the formulas
pub zero_within : Within 0 zero
unfolding of_bits
zero_within = record { sign = false; part = 0; power = pos 0; is = refl; size = lit≤ tt }

pub half_within : Within 0 half
unfolding of_bits
half_within = record { sign = false; part = 1; power = negsuc 0; is = refl; size = lit≤ tt }

pub one_within : Within 0 one
unfolding of_bits
one_within = record { sign = false; part = 1; power = pos 0; is = refl; size = lit≤ tt }

pub two_within : Within 1 two
unfolding of_bits
two_within = record { sign = false; part = 1; power = pos 1; is = refl; size = lit≤ tt }

pub three_within : Within 2 three
unfolding of_bits
three_within = record { sign = false; part = 3; power = pos 0; is = refl; size = lit≤ tt }

pub four_within : Within 2 four
unfolding of_bits
four_within = record { sign = false; part = 1; power = pos 2; is = refl; size = lit≤ tt }

pub six_within : Within 3 six
unfolding of_bits
six_within = record { sign = false; part = 3; power = pos 1; is = refl; size = lit≤ tt }

pub two_low : Low 0 two
unfolding of_bits
two_low = record { part = 1; power = pos 1; is = refl; size = lit≤ tt }

pub three_low : Low 0 three
unfolding of_bits
three_low = record { part = 3; power = pos 0; is = refl; size = lit≤ tt }

-- ---- signs
pub neg_finite : (x : Float) → finite x ≡ true → finite (neg x) ≡ true
unfolding finite neg
neg_finite nan h = h
neg_finite (inf s) h = h
neg_finite (fin s m e) h = refl

pub neg_neg : (x : Float) → neg (neg x) ≡ x
unfolding neg
neg_neg nan = refl
neg_neg (inf true) = refl
neg_neg (inf false) = refl
neg_neg (fin true m e) = refl
neg_neg (fin false m e) = refl

unlike_not : (s t : Bool) → unlike (not s) (not t) ≡ unlike s t
unlike_not true true = refl
unlike_not true false = refl
unlike_not false true = refl
unlike_not false false = refl

not_unlike : (s t : Bool) → unlike (not s) t ≡ not (unlike s t)
not_unlike true true = refl
not_unlike true false = refl
not_unlike false true = refl
not_unlike false false = refl

pub minus_zero : le zero (neg zero) ≡ true
unfolding le neg of_bits
minus_zero = refl

lt_neg : (x : Float) → lt x zero ≡ true → lt zero (neg x) ≡ true
unfolding lt neg of_bits
lt_neg nan h = h
lt_neg (inf true) h = refl
lt_neg (inf false) h = h
lt_neg (fin true m e) h = lt-ltb (0 * 1 * down e) (m * up e * 1) (omega (arith, ltb-true 0 (m * up e * 1 + 0 * 1 * down e) h, zero-mul (down e)))
lt_neg (fin false m e) h = absurd (omega (arith, ltb-true (m * up e * 1) (0 * 1 * down e) h, zero-mul (down e)))

pub zero_level : (s : Bool) (e : ℤ) → (le (fin s 0 e) zero ≡ true) × (le zero (fin s 0 e) ≡ true)
unfolding of_bits
zero_level true e = (at_most_le true 0 e false 0 (pos 0) (simp zero-mul (le_refl _)), at_most_le false 0 (pos 0) true 0 e (simp zero-mul (le_refl _)))
zero_level false e = (at_most_le false 0 e false 0 (pos 0) (simp zero-mul (le_refl _)), at_most_le false 0 (pos 0) false 0 e (simp zero-mul (le_refl _)))

inf_number : (s : Bool) → le (inf s) (inf s) ≡ true
unfolding le
inf_number true = refl
inf_number false = refl

-- ---- between 0 and a number
least : (k M E N D : ℕ) → 0 < D → M * D ≤ N * E → N ≤ 2 ^ k * D → M ≤ 2 ^ k * E
least k M E N D d h l =
    let same : 2 ^ k * D * E ≡ 2 ^ k * E * D = simp (mul_assoc, mul_comm, mul_left_comm) in
    le_of_mul-le-mul_right (rw (← same) (le_trans h (mul-le-mul_right E l))) d

pub between_within : {k : ℕ} (x : Float) {y : Float} → Within k y → le zero x ≡ true → le x y ≡ true → Within k x
unfolding le of_bits
between_within nan w h l = never h refl
between_within (inf true) w h l = never h refl
between_within (inf false) w h l = never (rw w.is at l) refl
between_within {k} (fin s m e) w h l =
    let a = all_plus s m e h in
    let o = le_at_most s m e w.sign w.part w.power (rw w.is at l) in
    let size = least k (m * up e) (down e) (w.part * up w.power) (down w.power) (down_pos w.power) (by w.sign a.0 a.1 o) w.size in
    record { sign = s; part = m; power = e; is = refl; size = size }
  where
    by : (t : Bool) → plus s (m * up e) ≡ m * up e → less s (m * up e) ≡ 0 → AtMost s (m * up e) (down e) t (w.part * up w.power) (down w.power)
        → m * up e * down w.power ≤ w.part * up w.power * down e
    by true p q o = let r = simp (p, q, zero-mul, add-zero, zero-add) at o in omega arith
    by false p q o = let r = simp (p, q, zero-mul, add-zero, zero-add) at o in omega arith

-- ---- a ratio
ratio_of : (s : Bool) (m : ℕ) (e : ℤ) (n : ℕ) (d : ℤ) → le zero (fin s m e) ≡ true → le (fin s m e) (fin false (suc n) d) ≡ true
    → (le zero (fin s m e ⊘ fin false (suc n) d) ≡ true) × (le (fin s m e ⊘ fin false (suc n) d) one ≡ true)
unfolding of_bits
ratio_of s m e n d h l =
    let a = all_plus s m e h in
    let r = over_rounded s m e n d in
    let positive = mul-pos (mul-pos (zero-lt-suc n) (up_pos d)) (down_pos e) in
    let at : m * up e * down d ≤ suc n * up d * down e = simp (a.0, a.1, zero-mul, add-zero) at (le_at_most s m e false (suc n) d l) in (
      rounded_mono zero_rounded r (lit< tt) positive (simp (a.0, a.1, zero-mul, add-zero, zero-add, mul-one) (nat.zero-le)),
      own_above false 1 (pos 0) (unfold fits in tt) r positive (simp (a.0, a.1, zero-mul, one-mul, add-zero, zero-add, mul-one) at),
    )

pub ratio : (a b : Float) → finite b ≡ true → le zero a ≡ true → le a b ≡ true → lt zero b ≡ true → (le zero (a ⊘ b) ≡ true) × (le (a ⊘ b) one ≡ true)
ratio a b f h l z = by a (between_finite a b f h l) h l
  where
    p : Above b
    p = above b f z

    by : (a : Float) → finite a ≡ true → le zero a ≡ true → le a b ≡ true → (le zero (a ⊘ b) ≡ true) × (le (a ⊘ b) one ≡ true)
    by nan f h l = absurd (unfold finite in never f refl)
    by (inf s) f h l = absurd (unfold finite in never f refl)
    by (fin s m e) f h l = rw p.is (ratio_of s m e p.part p.power h (rw p.is at l))

pub unit_within : (x : Float) → le zero x ≡ true → le x one ≡ true → Within 0 x
unit_within x h l = between_within x one_within h l

-- both signs turned round leave a quotient as it is
quotient_neg : (x y : Float) → neg x ⊘ neg y ≡ x ⊘ y
unfolding neg div
quotient_neg nan y = refl
quotient_neg (inf s) nan = refl
quotient_neg (inf s) (inf t) = refl
quotient_neg (inf s) (fin t n d) = rw (unlike_not s t)
quotient_neg (fin s m e) nan = refl
quotient_neg (fin s m e) (inf t) = rw (unlike_not s t)
quotient_neg (fin s m e) (fin t n d) = rw (unlike_not s t)

-- and of a ratio of two numbers that are not above 0
pub ratio_below : (a b : Float) → finite b ≡ true → le a zero ≡ true → le b a ≡ true → lt b zero ≡ true → (le zero (a ⊘ b) ≡ true) × (le (a ⊘ b) one ≡ true)
ratio_below a b f h l z =
    rw (← quotient_neg a b) (ratio (neg a) (neg b) (neg_finite b f) (le_on zero (neg zero) (neg a) minus_zero (le_neg a zero h)) (le_neg b a l) (lt_neg b z))

-- ---- a product with its sign turned round
round_not : (s : Bool) (a b : ℕ) → round binary64 (not s) a b ≡ neg (round binary64 s a b)
round_not false a b = sym (round_neg a b)
round_not true a b = sym (ap neg (sym (round_neg a b)) ∙ neg_neg (round binary64 false a b))

pub product_neg : (x y : Float) → finite x ≡ true → finite y ≡ true → neg x ⊗ y ≡ neg (x ⊗ y)
unfolding finite neg mul
product_neg nan y f g = never f refl
product_neg (inf s) y f g = never f refl
product_neg (fin s m e) nan f g = never g refl
product_neg (fin s m e) (inf t) f g = never g refl
product_neg (fin s m e) (fin t n d) f g = rw (not_unlike s t) (round_not (unlike s t) (m * up e * (n * up d)) (down e * down d))

-- ---- the place of x in a period
pub self_less : (x : Float) → finite x ≡ true → x ⊖ x ≡ zero
unfolding finite sub neg add of_bits
self_less nan f = never f refl
self_less (inf s) f = never f refl
self_less (fin s m e) f = sum_self s (m * up e * down e) (down e * down e) (mul-pos (down_pos e) (down_pos e))

-- between two finite numbers all are finite
pub inside_finite : (x0 x x1 : Float) → finite x0 ≡ true → finite x1 ≡ true → le x0 x ≡ true → le x x1 ≡ true → finite x ≡ true
unfolding finite le
inside_finite nan x x1 f g h l = never f refl
inside_finite (inf s) x x1 f g h l = never f refl
inside_finite (fin s m e) nan x1 f g h l = never h refl
inside_finite (fin s m e) (inf true) x1 f g h l = never h refl
inside_finite (fin s m e) (inf false) nan f g h l = never g refl
inside_finite (fin s m e) (inf false) (inf t) f g h l = never g refl
inside_finite (fin s m e) (inf false) (fin t n d) f g h l = never l refl
inside_finite (fin s m e) (fin t n d) x1 f g h l = refl

module _ (x0 x1 x : Float) (f : finite x0 ≡ true) (g : finite x ≡ true) (h : le x0 x ≡ true) (l : le x x1 ≡ true) where
  pub reach : (le zero (x ⊖ x0) ≡ true) × (le (x ⊖ x0) (x1 ⊖ x0) ≡ true)
  reach = (rw (← self_less x g) (difference_anti x x0 x g h), difference_mono x x1 x0 (neg_finite x0 f) l)

  pub place : finite (x1 ⊖ x0) ≡ true → lt zero (x1 ⊖ x0) ≡ true → Within 0 ((x ⊖ x0) ⊘ (x1 ⊖ x0))
  place k z = let r = ratio (x ⊖ x0) (x1 ⊖ x0) k reach.0 reach.1 z in unit_within ((x ⊖ x0) ⊘ (x1 ⊖ x0)) r.0 r.1

-- ---- a quotient is a NaN only where both are 0
pub quotient_number : (x y : Float) → finite x ≡ true → finite y ≡ true
    → (le x zero ≡ true → le zero x ≡ true → le y zero ≡ true → le zero y ≡ true → ⊥) → le (x ⊘ y) (x ⊘ y) ≡ true
unfolding finite div
quotient_number nan y f g h = never f refl
quotient_number (inf s) y f g h = never f refl
quotient_number (fin s m e) nan f g h = never g refl
quotient_number (fin s m e) (inf t) f g h = never g refl
quotient_number (fin s nat.zero e) (fin t nat.zero d) f g h = absurd (h (zero_level s e).0 (zero_level s e).1 (zero_level t d).0 (zero_level t d).1)
quotient_number (fin s (suc m) e) (fin t nat.zero d) f g h = rw (eq-eqb 0 0 refl, ne_eqb (suc m) 0 (λ q. omega arith)) (inf_number (unlike s t))
quotient_number (fin s m e) (fin t (suc n) d) f g h =
    let c = mul-pos (mul-pos (zero-lt-suc n) (up_pos d)) (down_pos e) in
    rw (ne_eqb (suc n) 0 (λ q. omega arith)) (round_signed (unlike s t) (unlike s t) (m * up e * down d) _ (m * up e * down d) _ c c (le_refl _))

-- ---- a number above 0 divided by t is above 0 and at most 1 only where t is above 0
pub plus_from_zero : (m : ℕ) (e : ℤ) → le zero (fin false m e) ≡ true
unfolding of_bits
plus_from_zero m e = at_most_le false 0 (pos 0) false m e (simp (zero-mul, mul-one, zero-add) nat.zero-le)

pub below_from_zero : (m : ℕ) (e : ℤ) → le zero (fin true (suc m) e) ≡ false
unfolding le lt eq of_bits
below_from_zero m e = rw (ne_eqb (0 * 1 * down e) (suc m * up e * 1) (λ q. omega (arith, zero-mul (down e), magnitude_pos m e)))

divisor_of : (n : ℕ) (d : ℤ) (t : Float) → 0 < n → lt zero (fin false n d ⊘ t) ≡ true → le (fin false n d ⊘ t) one ≡ true → (finite t ≡ true) × (lt zero t ≡ true)
unfolding div lt le of_bits finite
divisor_of n d nan z h l = never h refl
divisor_of n d (inf true) z h l = never h refl
divisor_of n d (inf false) z h l = never h refl
divisor_of n d (fin true nat.zero e) z h l = never (rw (eq-eqb 0 0 refl, ne_eqb n 0 (λ q. omega arith)) at h) refl
divisor_of n d (fin false nat.zero e) z h l = never (rw (eq-eqb 0 0 refl, ne_eqb n 0 (λ q. omega arith)) at l) refl
divisor_of n d (fin true (suc k) e) z h l =
    let c = mul-pos (mul-pos (zero-lt-suc k) (up_pos e)) (down_pos d) in
    let r = fin false n d ⊘ fin true (suc k) e in
    let f : finite r ≡ true = between_finite r one refl (le_of_below zero r h) l in
    let under : le r zero ≡ true =
    rw (ne_eqb (suc k) 0 (λ q. omega arith))
    (rounded_mono (rounds true (n * up d * down e) 0 _ (suc k * up e * down d) refl refl) zero_rounded c (lit< tt) (simp (zero-mul, mul-one, zero-add) nat.zero-le)) in
    not_both zero r refl f h under
divisor_of n d (fin false (suc k) e) z h l = (refl, lt-ltb (0 * 1 * down e) (suc k * up e * 1) (simp (zero-mul, mul-one) (mul-pos (zero-lt-suc k) (up_pos e))))

pub divisor : {y : Float} (t : Float) → Above y → lt zero (y ⊘ t) ≡ true → le (y ⊘ t) one ≡ true → (finite t ≡ true) × (lt zero t ≡ true)
divisor t p h l = divisor_of (suc p.part) p.power t (zero-lt-suc p.part) (rw p.is at h) (rw p.is at l)

pub divided_finite : (x : Float) (m : ℕ) (e : ℤ) → finite (x ⊘ fin false m e) ≡ true → finite x ≡ true
unfolding finite div
divided_finite nan m e h = h
divided_finite (inf s) m e h = h
divided_finite (fin s n d) m e h = refl

-- ---- a quotient by what is above 1.0e-12, an infinity included
narrow_low : (x : Float) → lt narrow x ≡ true → finite x ≡ true → Low 40 x
unfolding le of_bits
narrow_low x h f = low_up x (small_low 39) (le_on (small 39) narrow x refl (le_of_below narrow x h)) f

pub narrow_above : (x : Float) → lt narrow x ≡ true → lt zero x ≡ true
unfolding lt of_bits
narrow_above x h = lt_on zero narrow x refl h

pub over_narrow : {k : ℕ} {x : Float} (r : Float) → Within k x → lt narrow r ≡ true → T (ltb (k + 40) 1024) → Within (k + 40) (x ⊘ r)
unfolding finite div lt of_bits
over_narrow nan w h K = never h refl
over_narrow {k} (inf s) w h K = rw w.is (record { sign = unlike w.sign s; part = 0; power = pos 0; is = refl; size = nat.zero-le })
over_narrow (fin s m e) w h K = quotient_within w (narrow_low (fin s m e) h refl) K

-- ---- a ratio of ordinary size
most_within : Within 60 most_ratio
unfolding of_bits
most_within = record { sign = false; part = 1; power = pos 60; is = refl; size = lit≤ tt }

pub ordinary_within : (r : Float) → ordinary_ratio r ≡ true → Within 60 r
unfolding le of_bits
ordinary_within r h = let p = and_split (le least_ratio r) (le r most_ratio) h in between_within r most_within (le_on zero least_ratio r refl p.0) p.1

pub ordinary_low : (r : Float) → ordinary_ratio r ≡ true → Low 60 r
unfolding le of_bits
ordinary_low r h =
    low_up r (small_low 59) (le_on (small 59) least_ratio r refl (and_split (le least_ratio r) (le r most_ratio) h).0) (within_finite (ordinary_within r h))

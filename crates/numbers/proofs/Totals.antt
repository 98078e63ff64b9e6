-- A running total fits and is not -0.0, since it starts from +0.0. It may be an infinity or the NaN. A zero of either sign that is added to it leaves it as it is,
-- and so does the share of it that weighs nothing, where it is finite.
use Prim.Native.Nat as nat
use Prim.Native.Nat.{ℕ, suc, ◌+◌, ◌-◌, ◌*◌, ◌%◌, ◌^◌, ◌≤◌, ◌<◌}
use native.Mathlib.Omega.{arith}
use native.Mathlib.Nat.{mul_assoc, mul_comm, mul_left_comm, mul_right_comm, sub-zero, one-mul, zero-mul, add-zero, add-mul, mul-pos, mul-le-mul_left, mul-le-mul_right, lt_of_mul-lt-mul_right, le_trans, zero-lt-suc}
use mathlib.Core.Bool.{Bool, true, false, ◌&&◌}
use mathlib.Core.Logic.{⊎_elim}
use mathlib.Core.Path.{◌≡◌, refl, sym, ap, ◌∙◌}
use borrow.Author.Tests.{lt-ltb, le-ltb}
use lib.IntN.{ℤ, pos, negsuc}
use lib.Dec.{T, eqb, ltb, leb, leb→le, lit<, lit≤}
use lib.Pow.{pow-add}
use lib.Ieee.{Float, nan, inf, fin, binary64, prec, emax, low, round, sum, neg, add, sub, mul, le, up, down, of_bits, to_bits, fits}
use lib.Ieee.Bits.{of_bits-to_bits}
use lib.Ieee.Digits.{back}
use lib.Ieee.Exact.{HasValue}
use lib.Ieee.Fits.{down_pos, up_pos, and_l, and_r, round-fits, add-fits}
use lib.Ieee.Nearest.{div_same}
use lib.Ieee.Scale.{round_same}
use Rattle.numbers.specs.Words.{◌⊕◌, ◌⊖◌, ◌⊗◌, ◌⊘◌, zero, one, finite}
use Rattle.numbers.proofs.Ways.{never, lt_or_le}
use Rattle.numbers.proofs.Signs.{zero_exponent}
use Rattle.numbers.proofs.Finite.{round_zero}
use Rattle.numbers.proofs.AtMost.{le_on}
use Rattle.numbers.proofs.Rounding.{own_value, round_neg}
use Rattle.numbers.proofs.Plus.{is_plus, round_sign}
use Rattle.numbers.proofs.Shrinking.{product_comm}
use Rattle.numbers.proofs.Bounds.{Within}
use Rattle.numbers.proofs.Monotone.{sum_comm}
use Rattle.numbers.proofs.Low.{small, round_low}
use Rattle.numbers.proofs.Ratios.{zero_level, self_less}
use Rattle.numbers.proofs.Zeros.{Zero, zero_zero, finite_product_zero}

-- -0.0
unfoldable pub is_minus_zero : Float → Bool
is_minus_zero nan = false
is_minus_zero (inf s) = false
is_minus_zero (fin true nat.zero e) = true
is_minus_zero (fin true (suc m) e) = false
is_minus_zero (fin false m e) = false

pub record Total (x : Float) : Type 0 where
  pub fit : T (fits binary64 x)
  pub not_minus : is_minus_zero x ≡ false

-- ---- a zero leaves it as it is
scaled : (a b c d k : ℕ) → a * d ≡ c * b → a * k * d ≡ c * k * b
scaled a b c d k h = mul_right_comm a k d ∙ ap (λ (i : ℕ). i * k) h ∙ mul_right_comm c b k

-- two numbers that fit and have one value are the same, since they have the same bits
same_bits : (s t : Bool) (m n : ℕ) (e d : ℤ) → t ≡ s → n * up d * down e ≡ m * up e * down d → to_bits binary64 (fin t n d) ≡ to_bits binary64 (fin s m e)
unfolding to_bits
same_bits s t m n e d p q =
    let k = 2 ^ low binary64 in
    rw (p, div_same (n * up d * k) (down d) (m * up e * k) (down e) (down_pos d) (down_pos e) (scaled (n * up d) (down d) (m * up e) (down e) k q))

one_value : (s : Bool) (m : ℕ) (e : ℤ) (y : Float) → T (fits binary64 (fin s m e)) → T (fits binary64 y) → HasValue y s (m * up e) (down e) → y ≡ fin s m e
one_value s m e nan f g v = absurd v
one_value s m e (inf t) f g v = absurd v
one_value s m e (fin t n d) f g v =
    sym (of_bits-to_bits binary64 (fin t n d) g) ∙ ap (of_bits binary64) (same_bits s t m n e d v.0 v.1) ∙ of_bits-to_bits binary64 (fin s m e) f

-- so such a number is what it is rounded to, over any divisor
own : (s : Bool) (m : ℕ) (e : ℤ) (k : ℕ) → 0 < k → T (fits binary64 (fin s m e)) → round binary64 s (m * up e * k) (down e * k) ≡ fin s m e
own s m e k K f =
    round_same binary64 s (m * up e * k) (down e * k) (m * up e) (down e) (mul-pos (down_pos e) K) (down_pos e) (simp (mul_assoc, mul_comm, mul_left_comm))
    ∙ one_value s m e (round binary64 s (m * up e) (down e)) f (round-fits binary64 s (m * up e) (down e)) (own_value binary64 s m e f)

-- a / c and nothing, where a is something: a / c with its own sign
nothing_added : (s t : Bool) (a c : ℕ) → 0 < a → sum binary64 s a t 0 c ≡ round binary64 s a c
unfolding sum
nothing_added true true a c A = simp add-zero
nothing_added false false a c A = simp add-zero
nothing_added false true a c A = simp (le-ltb a 0 nat.zero-le, sub-zero)
nothing_added true false a c A = simp (le-ltb a 0 nat.zero-le, lt-ltb 0 a A, sub-zero)

-- nothing and nothing, the first without a minus sign
nothing_to_plus : (t : Bool) (c : ℕ) → 0 < c → sum binary64 false 0 t 0 c ≡ fin false 0 (pos 0)
unfolding sum
nothing_to_plus true c C = simp (le-ltb 0 0 nat.zero-le) (round_zero false c C)
nothing_to_plus false c C = round_zero false c C

stays_at : (s : Bool) (m : ℕ) (e : ℤ) (t : Bool) (d : ℤ) → T (fits binary64 (fin s m e)) → is_minus_zero (fin s m e) ≡ false → fin s m e ⊕ fin t 0 d ≡ fin s m e
unfolding add is_minus_zero fits
stays_at true nat.zero e t d f h = never refl h
stays_at false nat.zero e t d f h = rw (zero_exponent e f, zero-mul (up d), zero-mul (down d)) (nothing_to_plus t (1 * down d) (mul-pos (lit< tt) (down_pos d)))
stays_at s (suc m) e t d f h =
    rw (zero-mul (up d), zero-mul (down e))
    (nothing_added s t (suc m * up e * down d) (down e * down d) (mul-pos (mul-pos (zero-lt-suc m) (up_pos e)) (down_pos d)) ∙ own s (suc m) e (down d) (down_pos d) f)

pub total_stays : {x z : Float} → Total x → Zero z → x ⊕ z ≡ x
total_stays {x} {z} total v = rw v.is (by x total.fit total.not_minus)
  where
    by : (x : Float) → T (fits binary64 x) → is_minus_zero x ≡ false → x ⊕ fin v.sign 0 v.power ≡ x
    by nan f h = unfold add in refl
    by (inf s) f h = unfold add in refl
    by (fin s m e) f h = stays_at s m e v.sign v.power f h

-- ---- all of a finite total with nothing of it is that total
one_times : (s : Bool) (m : ℕ) (e : ℤ) → T (fits binary64 (fin s m e)) → one ⊗ fin s m e ≡ fin s m e
unfolding mul of_bits
one_times s m e f = rw (product_comm one (fin s m e)) (by s f)
  where
    by : (s : Bool) → T (fits binary64 (fin s m e)) → fin s m e ⊗ one ≡ fin s m e
    by true f = own true m e 1 (lit< tt) f
    by false f = own false m e 1 (lit< tt) f

one_total : (t : Float) → T (fits binary64 t) → finite t ≡ true → one ⊗ t ≡ t
unfolding finite
one_total nan f g = never g refl
one_total (inf s) f g = never g refl
one_total (fin s m e) f g = one_times s m e f

module _ {t : Float} (total : Total t) (known : finite t ≡ true) where
  pub all_of_first : one ⊗ t ⊕ (one ⊖ one) ⊗ t ≡ t
  unfolding finite of_bits
  all_of_first = rw (one_total t total.fit known, self_less one refl) (total_stays total (finite_product_zero t zero_zero known))

  pub all_of_second : zero ⊗ t ⊕ (one ⊖ zero) ⊗ t ≡ t
  unfolding sub of_bits
  all_of_second =
      let whole : one ⊖ zero ≡ one = refl in
      rw (whole, one_total t total.fit known, sum_comm (zero ⊗ t) t) (total_stays total (finite_product_zero t zero_zero known))

-- ---- what it grows to is a total again: of two numbers that fit, the sum is nothing, or as large as the smallest number at least, and so not rounded to nothing
-- the binary digits after the point
abbrev fall : ℤ → ℕ
fall (pos k) = 0
fall (negsuc k) = suc k

down_is : (e : ℤ) → down e ≡ 2 ^ fall e
down_is (pos k) = refl
down_is (negsuc k) = refl

-- a number that fits has no more of them than the smallest number
fine : (s : Bool) (m : ℕ) (e : ℤ) → T (fits binary64 (fin s m e)) → down e ≤ 2 ^ 1074
unfolding fits
fine s nat.zero e f = rw (zero_exponent e f) (lit≤ tt)
fine s (suc m) e f =
    let short = eqb (suc m % 2) 1 && ltb (suc m) (2 ^ prec binary64) in
    let is-fine = leb (down e) (2 ^ low binary64) in
    let is-under = ltb (suc m * up e) (2 ^ suc (emax binary64) * down e) in
    leb→le (down e) (2 ^ low binary64) (and_r short is-fine (and_l (short && is-fine) is-under f))

-- a / E and b / D are whole numbers of g / (E * D), which is as large as the smallest number
record Common (a E b D : ℕ) : Type 0 where
  g : ℕ
  p : ℕ
  q : ℕ
  first : a * D ≡ p * g
  second : b * E ≡ q * g
  large : E * D ≤ 2 ^ 1074 * g

common_powers : (a i b j : ℕ) → 2 ^ i ≤ 2 ^ 1074 → 2 ^ j ≤ 2 ^ 1074 → Common a (2 ^ i) b (2 ^ j)
common_powers a i b j h l =
    ⊎_elim
    (λ (k : i < j).
    let split : 2 ^ j ≡ 2 ^ (j - i) * 2 ^ i = ap (λ (n : ℕ). 2 ^ n) (sym (back j i (omega arith))) ∙ pow-add 2 (j - i) i in
    record { g = 2 ^ i; p = a * 2 ^ (j - i); q = b; first = rw split (sym (mul_assoc a (2 ^ (j - i)) (2 ^ i))); second = refl; large = rw (mul_comm (2 ^ i) (2 ^ j)) (mul-le-mul_right (2 ^ i) l) })
    (λ (k : j ≤ i).
    let split : 2 ^ i ≡ 2 ^ (i - j) * 2 ^ j = ap (λ (n : ℕ). 2 ^ n) (sym (back i j k)) ∙ pow-add 2 (i - j) j in
    record { g = 2 ^ j; p = a; q = b * 2 ^ (i - j); first = refl; second = rw split (sym (mul_assoc b (2 ^ (i - j)) (2 ^ j))); large = mul-le-mul_right (2 ^ j) h })
    (lt_or_le i j)

common : (a : ℕ) (e : ℤ) (b : ℕ) (d : ℤ) → down e ≤ 2 ^ 1074 → down d ≤ 2 ^ 1074 → Common a (down e) b (down d)
common a e b d h l = rw (down_is e, down_is d) (common_powers a (fall e) b (fall d) (rw (down_is e) at h) (rw (down_is d) at l))

apart : (p q g : ℕ) → p * g < q * g → g ≤ q * g - p * g
apart p q g h =
    let less : p < q = lt_of_mul-lt-mul_right g h in
    let more : (p + 1) * g ≤ q * g = mul-le-mul_right g (omega arith) in
    omega (arith, simp (add-mul, one-mul) at more)

-- what is as large as the smallest number is not rounded to a zero
minus_of_low : (x : Float) → le (small 1073) x ≡ true → is_minus_zero (neg x) ≡ false
unfolding is_minus_zero neg le of_bits
minus_of_low nan h = refl
minus_of_low (inf s) h = refl
minus_of_low (fin true m e) h = refl
minus_of_low (fin false (suc m) e) h = refl
minus_of_low (fin false nat.zero e) h = never (le_on (small 1073) (fin false 0 e) zero h (zero_level false e).0) refl

plus_not_minus : (x : Float) → is_plus x ≡ true → is_minus_zero x ≡ false
unfolding is_plus is_minus_zero
plus_not_minus nan h = refl
plus_not_minus (inf s) h = refl
plus_not_minus (fin true m e) h = never h refl
plus_not_minus (fin false m e) h = refl

round_plus : (a c : ℕ) → is_minus_zero (round binary64 false a c) ≡ false
round_plus a c = plus_not_minus (round binary64 false a c) (round_sign false a c)

round_minus : (k c g : ℕ) → 0 < c → c ≤ 2 ^ 1074 * g → g ≤ k → is_minus_zero (round binary64 true k c) ≡ false
round_minus k c g C h l =
    rw (← round_neg k c) (minus_of_low (round binary64 false k c) (round_low 1073 k c C (lit< tt) (le_trans h (mul-le-mul_left (2 ^ 1074) l))))

-- ±a / c + ±b / c, where a and b are whole numbers of g
module _ (a b c g p q : ℕ) (first : a ≡ p * g) (second : b ≡ q * g) (C : 0 < c) (large : c ≤ 2 ^ 1074 * g) where
  further : a < b → g ≤ b - a
  further l = rw (first, second) (apart p q g (rw (first, second) at l))

  nearer : b < a → g ≤ a - b
  nearer l = rw (first, second) (apart q p g (rw (first, second) at l))

  some : 0 < a → g ≤ a + b
  some l = let more = apart 0 p g (rw zero-mul (rw first at l)) in omega (arith, first, zero-mul g)

  sum_of_common : (s t : Bool) → (s ≡ true → 0 < a) → is_minus_zero (sum binary64 s a t b c) ≡ false
  unfolding sum
  sum_of_common false false A = round_plus (a + b) c
  sum_of_common true true A = round_minus (a + b) c g C large (some (A refl))
  sum_of_common false true A =
      ⊎_elim
      (λ (l : a < b). simp (lt-ltb a b l) (round_minus (b - a) c g C large (further l)))
      (λ (l : b ≤ a). simp (le-ltb a b l) (round_plus (a - b) c))
      (lt_or_le a b)
  sum_of_common true false A =
      ⊎_elim
      (λ (l : a < b). simp (lt-ltb a b l) (round_plus (b - a) c))
      (λ (l : b ≤ a).
      ⊎_elim
      (λ (k : b < a). simp (le-ltb a b l, lt-ltb b a k) (round_minus (a - b) c g C large (nearer k)))
      (λ (k : a ≤ b). simp (le-ltb a b l, le-ltb b a k) (round_plus (a - b) c))
      (lt_or_le b a))
      (lt_or_le a b)

-- a number with a minus sign that is not -0.0 is something
some_size : (s : Bool) (m : ℕ) (e : ℤ) (k : ℕ) → 0 < k → is_minus_zero (fin s m e) ≡ false → s ≡ true → 0 < m * up e * k
unfolding is_minus_zero
some_size s (suc m) e k K h p = mul-pos (mul-pos (zero-lt-suc m) (up_pos e)) K
some_size true nat.zero e k K h p = never refl h
some_size false nat.zero e k K h p = never p refl

same_infinity : (s t : Bool) → is_minus_zero (inf s ⊕ inf t) ≡ false
unfolding add is_minus_zero
same_infinity true true = refl
same_infinity true false = refl
same_infinity false true = refl
same_infinity false false = refl

sum_not_minus : (x y : Float) → T (fits binary64 x) → T (fits binary64 y) → is_minus_zero x ≡ false → is_minus_zero (x ⊕ y) ≡ false
unfolding add is_minus_zero
sum_not_minus nan y f h p = refl
sum_not_minus (inf s) nan f h p = refl
sum_not_minus (inf s) (inf t) f h p = same_infinity s t
sum_not_minus (inf s) (fin t n d) f h p = refl
sum_not_minus (fin s m e) nan f h p = refl
sum_not_minus (fin s m e) (inf t) f h p = refl
sum_not_minus (fin s m e) (fin t n d) f h p =
    let k = common (m * up e) e (n * up d) d (fine s m e f) (fine t n d h) in
    sum_of_common (m * up e * down d) (n * up d * down e) (down e * down d) k.g k.p k.q k.first k.second (mul-pos (down_pos e) (down_pos d)) k.large s t
    (some_size s m e (down d) (down_pos d) p)

pub total_more : {x : Float} (y : Float) → Total x → T (fits binary64 y) → Total (x ⊕ y)
total_more {x} y total f = record { fit = add-fits binary64 x y; not_minus = sum_not_minus x y total.fit f total.not_minus }

pub zero_total : Total zero
unfolding of_bits fits is_minus_zero
zero_total = record { fit = tt; not_minus = refl }

-- the left knot x0 of a period to x1 that is not too long, with the total before it: the place there is a zero
pub record AtLeft (x0 x1 before : Float) : Type 0 where
  pub length : Within 400 (x1 ⊖ x0)
  pub place : Zero ((x0 ⊖ x0) ⊘ (x1 ⊖ x0))
  pub total : Total before

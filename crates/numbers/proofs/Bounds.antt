-- A calculus of sizes. A number within 2 ^ k is finite, and sums, products and quotients of such numbers stay within a power that is known.
use Prim.Native.Nat as nat
use Prim.Native.Nat.{ℕ, suc, ◌+◌, ◌-◌, ◌*◌, ◌^◌, ◌≤◌, ◌<◌, max}
use native.Mathlib.Omega.{arith}
use native.Mathlib.Nat.{mul_assoc, mul_comm, mul_left_comm, mul-one, one-mul, zero-mul, mul-zero, add-zero, zero-add, mul-pos, mul-le-mul, mul-le-mul_right, le_of_mul-le-mul_right, le-max_left, le-max_right, le_trans, le_refl, pow-suc}
use mathlib.Core.Bool.{Bool, true, false, not}
use mathlib.Core.Path.{◌≡◌, refl, sym, ap, ◌∙◌}
use lib.IntN.{ℤ, pos}
use lib.Dec.{T, ltb, leb, ltb→lt, leb→le, lit<}
use lib.Pow.{pow-add, pow-lt, pow_mono}
use lib.Ieee.{Float, nan, inf, fin, binary64, round, sub, mul, div, neg, unlike, le, up, down, of_bits}
use lib.Ieee.Fits.{down_pos, up_pos}
use lib.Ieee.Exact.{HasValue, round_exact}
use borrow.Author.Tests.{ne_eqb}
use Rattle.numbers.specs.Words.{◌⊕◌, ◌⊖◌, ◌⊗◌, ◌⊘◌, zero, finite}
use Rattle.numbers.proofs.Ways.{never}
use Rattle.numbers.proofs.AtMost.{plus, less, le_at_most}
use Rattle.numbers.proofs.Rounding.{Rounded, rounds, rounded_mono, zero_rounded, round_neg, round_signed}
use Rattle.numbers.proofs.Sums.{plus_rounded}

-- x is from -2 ^ k to 2 ^ k
pub record Within (k : ℕ) (x : Float) : Type 0 where
  pub sign : Bool
  pub part : ℕ
  pub power : ℤ
  pub is : x ≡ fin sign part power
  pub size : part * up power ≤ 2 ^ k * down power

-- x is at least 2 ^ -j
pub record Low (j : ℕ) (x : Float) : Type 0 where
  pub part : ℕ
  pub power : ℤ
  pub is : x ≡ fin false part power
  pub size : down power ≤ 2 ^ j * (part * up power)

pub within_finite : {k : ℕ} {x : Float} → Within k x → finite x ≡ true
unfolding finite
within_finite w = rw w.is

pub wider : {j k : ℕ} {x : Float} → Within j x → T (leb j k) → Within k x
wider {j} {k} w h =
    record { sign = w.sign; part = w.part; power = w.power; is = w.is; size = le_trans w.size (mul-le-mul_right (down w.power) (pow_mono (leb→le j k h))) }

pub neg_within : {k : ℕ} {x : Float} → Within k x → Within k (neg x)
unfolding neg
neg_within w = record { sign = not w.sign; part = w.part; power = w.power; is = rw w.is; size = w.size }

-- ---- rounding
power_value : (k : ℕ) → k < 1024 → HasValue (round binary64 false (2 ^ k) 1) false (2 ^ k) 1
power_value k h =
    let under : k + 1074 < 1074 + 1024 = omega arith in
    round_exact binary64 false (2 ^ k) 1 1 (k + 1074) (lit< tt) (lit< tt) (simp one-mul (pow-lt under)) (simp (one-mul, mul-one, pow-add))

cancel : (a b c d k : ℕ) → 0 < d → a * d ≤ b * c → b * 1 ≡ k * d → a ≤ k * c
cancel a b c d k D h e =
    let same : b * c ≡ k * c * d = ap (λ (i : ℕ). i * c) (sym (mul-one b) ∙ e) ∙ simp (mul_assoc, mul_comm, mul_left_comm) in
    le_of_mul-le-mul_right (rw same at h) D

-- a number that is not below 0 is all above it
pub all_plus : (s : Bool) (m : ℕ) (e : ℤ) → le zero (fin s m e) ≡ true → (plus s (m * up e) ≡ m * up e) × (less s (m * up e) ≡ 0)
unfolding of_bits
all_plus s m e h = by s (simp (mul-one, zero-mul, zero-add, add-zero) at (le_at_most false 0 (pos 0) s m e h))
  where
    by : (s : Bool) → less s (m * up e) ≤ plus s (m * up e) → (plus s (m * up e) ≡ m * up e) × (less s (m * up e) ≡ 0)
    by true l = (omega arith, omega arith)
    by false l = (refl, refl)

-- between 0 and a power lies what is within it
below_power : (k : ℕ) (x z : Float) → le zero x ≡ true → le x z ≡ true → HasValue z false (2 ^ k) 1 → Within k x
unfolding le of_bits
below_power k nan z l h v = never h refl
below_power k (inf true) z l h v = never l refl
below_power k (inf false) nan l h v = absurd v
below_power k (inf false) (inf t) l h v = absurd v
below_power k (inf false) (fin t n d) l h v = never h refl
below_power k (fin s m e) nan l h v = absurd v
below_power k (fin s m e) (inf t) l h v = absurd v
below_power k (fin s m e) (fin t n d) l h v =
    let a = all_plus s m e l in
    let o = simp (a.0, a.1, v.0, zero-mul, add-zero) at (le_at_most s m e t n d h) in
    record { sign = s; part = m; power = e; is = refl; size = cancel (m * up e) (n * up d) (down e) (down d) (2 ^ k) (down_pos d) o v.1 }

plus_within : (k a c : ℕ) → 0 < c → k < 1024 → a ≤ 2 ^ k * c → Within k (round binary64 false a c)
plus_within k a c C K h =
    below_power k (round binary64 false a c) (round binary64 false (2 ^ k) 1)
    (rounded_mono zero_rounded (rounds false a a 0 c refl refl) (lit< tt) C (omega arith))
    (round_signed false false a c (2 ^ k) 1 C (lit< tt) (simp (mul-one, zero-mul, add-zero) h)) (power_value k K)

round_within : (s : Bool) (k a c : ℕ) → 0 < c → k < 1024 → a ≤ 2 ^ k * c → Within k (round binary64 s a c)
round_within false k a c C K h = plus_within k a c C K h
round_within true k a c C K h = rw (← round_neg a c) (neg_within (plus_within k a c C K h))

rounded_within : {x : Float} {p n c : ℕ} (k : ℕ) → Rounded x p n c → 0 < c → k < 1024 → p ≤ 2 ^ k * c → n ≤ 2 ^ k * c → Within k x
rounded_within {x} {p} {n} {c} k r C K h l = rw r.is (round_within r.sign k r.size c C K (most r.sign r.size r.worth))
  where
    most : (s : Bool) (a : ℕ) → plus s a + n ≡ p + less s a → a ≤ 2 ^ k * c
    most true a w = omega arith
    most false a w = omega arith

-- ---- the operations
added : (m e j n d k : ℕ) → m ≤ 2 ^ j * e → n ≤ 2 ^ k * d → m * d + n * e ≤ 2 ^ suc (max j k) * (e * d)
added m e j n d k h l =
    let left : m * d ≤ 2 ^ max j k * (e * d) = rw (← mul_assoc (2 ^ max j k) e d) (mul-le-mul_right d (le_trans h (mul-le-mul_right e (pow_mono (le-max_left j k))))) in
    let right : n * e ≤ 2 ^ max j k * (d * e) = rw (← mul_assoc (2 ^ max j k) d e) (mul-le-mul_right e (le_trans l (mul-le-mul_right d (pow_mono (le-max_right j k))))) in
    let twice : 2 ^ suc (max j k) * (e * d) ≡ 2 ^ max j k * (e * d) + 2 ^ max j k * (e * d) = rw (pow-suc 2 (max j k)) (omega arith) in
    rw twice (omega (arith, left, rw (mul_comm d e) at right))

part_least : (s : Bool) (a : ℕ) → (plus s a ≤ a) × (less s a ≤ a)
part_least true a = (omega arith, omega arith)
part_least false a = (omega arith, omega arith)

pub sum_within : {j k : ℕ} {x y : Float} → Within j x → Within k y → T (ltb (suc (max j k)) 1024) → Within (suc (max j k)) (x ⊕ y)
sum_within {j} {k} v w h =
    let most = added (v.part * up v.power) (down v.power) j (w.part * up w.power) (down w.power) k v.size w.size in
    let a = part_least v.sign (v.part * up v.power) in
    let b = part_least w.sign (w.part * up w.power) in
    rw (v.is, w.is)
    (rounded_within (suc (max j k)) (plus_rounded v.sign v.part v.power w.sign w.part w.power) (mul-pos (down_pos v.power) (down_pos w.power))
    (ltb→lt (suc (max j k)) 1024 h)
    (omega (arith, most, mul-le-mul_right (down w.power) a.0, mul-le-mul_right (down v.power) b.0))
    (omega (arith, most, mul-le-mul_right (down w.power) a.1, mul-le-mul_right (down v.power) b.1)))

pub difference_within : {j k : ℕ} {x y : Float} → Within j x → Within k y → T (ltb (suc (max j k)) 1024) → Within (suc (max j k)) (x ⊖ y)
unfolding sub
difference_within v w h = sum_within v (neg_within w) h

pub product_within : {j k : ℕ} {x y : Float} → Within j x → Within k y → T (ltb (j + k) 1024) → Within (j + k) (x ⊗ y)
unfolding mul
product_within {j} {k} v w h =
    let m = v.part * up v.power in
    let n = w.part * up w.power in
    let most : m * n ≤ 2 ^ (j + k) * (down v.power * down w.power) =
    rw (pow-add 2 j k) (le_trans (mul-le-mul v.size w.size) (simp (mul_assoc, mul_comm, mul_left_comm) (le_refl _))) in
    rw (v.is, w.is)
    (round_within (unlike v.sign w.sign) (j + k) (m * n) (down v.power * down w.power)
    (mul-pos (down_pos v.power) (down_pos w.power)) (ltb→lt (j + k) 1024 h) most)

-- a quotient, by how many times its divisor the other is at most
pub divided : (s : Bool) (m : ℕ) (e : ℤ) (t : Bool) (n : ℕ) (d : ℤ) (k : ℕ) → 0 < n → k < 1024 → m * up e * down d ≤ 2 ^ k * (n * up d * down e) → Within k (fin s m e ⊘ fin t n d)
unfolding div
divided s m e t n d k z K h =
    rw (ne_eqb n 0 (λ e. omega arith)) (round_within (unlike s t) k (m * up e * down d) (n * up d * down e) (mul-pos (mul-pos z (up_pos d)) (down_pos e)) K h)

some_part : (a b c j : ℕ) → 0 < c → c ≤ j * (a * b) → 0 < a
some_part nat.zero b c j C h = absurd (omega (arith, simp (zero-mul, mul-zero) at h))
some_part (suc a) b c j C h = omega arith

pub low_part : {j : ℕ} {x : Float} (l : Low j x) → 0 < l.part
low_part {j} l = some_part l.part (up l.power) (down l.power) (2 ^ j) (down_pos l.power) l.size

pub quotient_within : {j k : ℕ} {x y : Float} → Within k x → Low j y → T (ltb (k + j) 1024) → Within (k + j) (x ⊘ y)
quotient_within {j} {k} v l h =
    let most : v.part * up v.power * down l.power ≤ 2 ^ (k + j) * (l.part * up l.power * down v.power) =
    rw (pow-add 2 k j) (le_trans (mul-le-mul v.size l.size) (simp (mul_assoc, mul_comm, mul_left_comm) (le_refl _))) in
    rw (v.is, l.is) (divided v.sign v.part v.power false l.part l.power (k + j) (low_part l) (ltb→lt (k + j) 1024 h) most)

-- The bits that the code puts together are the root: R with its leading digit dropped, under the exponent's field pairs n + 485.
use Prim.Native.Nat.{ℕ, zero, suc, ◌+◌, ◌-◌, ◌*◌, ◌/◌, ◌%◌, ◌^◌, ◌≤◌, ◌<◌}
use native.Mathlib.Omega.{arith}
use native.Mathlib.Nat.{mod-eq_of_lt, add_right_comm}
use mathlib.Core.Bool.{Bool, false}
use mathlib.Core.Logic.{⊎_elim}
use mathlib.Core.Path.{◌≡◌, refl, ap, subst, ◌∙◌}
use lib.IntN.{ℤ, pos, negsuc}
use lib.Count.{count_trailing_zeros}
use borrow.Author.Tests.{le-leb, lt-leb, ne_eqb, le-ltb}
use lib.Ieee.{fin, binary64, of_bits, of_fields, odd, minus, nan_bits, size}
use lib.Ieee.Bits.{nan_bits_above}
use lib.Ieee.Digits.{size-le}
use Rattle.root.specs.Root.{nearest_root, scaled, pairs, root_of}
use Rattle.root.specs.Steps.{root_bits}
use Rattle.root.proofs.Isqrt.{Near, nearest_near, digits_low, digits_high}
use Rattle.root.proofs.Units.{Parts}
use Rattle.numbers.proofs.Ways.{lt_or_le}
use Rattle.root.proofs.Scaling.{placed, scaled_range, scaled_exact}

-- the same power on both sides of a fraction
minus_shift : (a b c : ℕ) → minus (a + c) (b + c) ≡ minus a b
minus_shift a b c =
    ⊎_elim
    (λ (h : a < b). simp (lt-leb (b + c) (a + c) (omega arith), lt-leb b a h) (let e : b + c - suc (a + c) ≡ b - suc a = omega arith in ap negsuc e))
    (λ (h : b ≤ a). simp (le-leb (b + c) (a + c) (omega arith), le-leb b a h) (let e : a + c - (b + c) ≡ a - b = omega arith in ap pos e))
    (lt_or_le a b)

odd_shift : (d : ℕ) (s : Bool) (q k l c : ℕ) → odd d s q (k + c) (l + c) ≡ odd d s q k l
unfolding odd
odd_shift d s zero k l c = refl
odd_shift d s (suc q) k l c =
    let t = count_trailing_zeros d (suc q) in
    ap (λ (z : ℤ). fin s (suc q / 2 ^ t) z) (ap (λ (x : ℕ). minus x (l + c)) (add_right_comm k c t) ∙ minus_shift (k + t) l c)

-- fields that are neither a zero's nor an infinity's
fields : (s : Bool) (x t : ℕ) → x < 2046 → of_fields binary64 s (suc x) t ≡ odd 53 s (2 ^ 52 + t) x 1074
unfolding of_fields
fields s x t h = simp (ne_eqb (suc x) 2047 (λ e. omega arith))

-- bits that are a field above 0 and a significand with its leading digit
bits_odd : (x r : ℕ) → x < 2046 → 2 ^ 52 ≤ r → r < 2 ^ 53 → of_bits binary64 (x * 2 ^ 52 + r) ≡ odd 53 false r x 1074
unfolding of_bits
bits_odd x r h l g =
    let b = x * 2 ^ 52 + r in
    let below : b < 2 ^ 63 = omega arith in
    let field : b / 2 ^ 52 ≡ suc x = omega arith in
    let digits : b % 2 ^ 52 ≡ r - 2 ^ 52 = omega arith in
    let back : 2 ^ 52 + (r - 2 ^ 52) ≡ r = omega arith in
    simp (lt-leb (2 ^ 63) b below, mod-eq_of_lt below, field, digits) (fields false x (r - 2 ^ 52) h ∙ ap (λ (q : ℕ). odd 53 false q x 1074) back)

-- such bits are no NaN's
pub bits_number : (x r : ℕ) → x < 2046 → r < 2 ^ 53 → nan_bits binary64 (x * 2 ^ 52 + r) ≡ false
bits_number x r h g =
    let b = x * 2 ^ 52 + r in
    let below : b < 2 ^ 63 = omega arith in
    nan_bits_above binary64 b ∙ simp (mod-eq_of_lt below) (le-ltb (2047 * 2 ^ 52) b (omega arith))

module _ (n : ℕ) (t : Parts n) (high : n < 2 ^ 2098) where
  -- document 01's M, in its range
  pub M-range : (2 ^ 104 ≤ scaled n) × (scaled n + 2 ^ 53 ≤ 2 ^ 106)
  M-range = subst (λ (x : ℕ). (2 ^ 104 ≤ scaled x) × (scaled x + 2 ^ 53 ≤ 2 ^ 106)) t.whole (scaled_range t.q t.k _ (placed t.q t.q_pos t.q_small))

  pub M-exact : n * 4 ^ 53 ≡ scaled n * 4 ^ pairs n
  M-exact = subst (λ (x : ℕ). x * 4 ^ 53 ≡ scaled x * 4 ^ pairs x) t.whole (scaled_exact t.q t.k _ (placed t.q t.q_pos t.q_small))

  -- and R, of 53 digits
  pub R-near : Near (nearest_root (scaled n)) (scaled n)
  R-near = let r = M-range in nearest_near (scaled n) (omega arith) (omega arith)

  pub R-range : (2 ^ 52 ≤ nearest_root (scaled n)) × (nearest_root (scaled n) < 2 ^ 53)
  R-range = (digits_low (nearest_root (scaled n)) (scaled n) R-near M-range.0, digits_high (nearest_root (scaled n)) (scaled n) R-near M-range.1)

  pairs_high : pairs n ≤ 1049
  unfolding pairs
  pairs_high = let s : size n ≤ 2098 = size-le n 2098 high in omega arith

  field_high : pairs n + 484 < 2046
  field_high = omega (arith, pairs_high)

  pub result : of_bits binary64 (root_bits n) ≡ root_of n
  unfolding root_bits root_of
  result = bits_odd (pairs n + 484) (nearest_root (scaled n)) field_high R-range.0 R-range.1 ∙ odd_shift 53 false (nearest_root (scaled n)) (pairs n) 590 484

  pub result_number : nan_bits binary64 (root_bits n) ≡ false
  unfolding root_bits
  result_number = bits_number (pairs n + 484) (nearest_root (scaled n)) field_high R-range.1

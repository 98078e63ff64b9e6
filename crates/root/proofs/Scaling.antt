-- A number q of 1 to 53 binary digits, times 2 ^ k, normalised to the size of document 01 by its leading zeros.
use Prim.Native.Nat.{ℕ, suc, ◌+◌, ◌-◌, ◌*◌, ◌/◌, ◌%◌, ◌^◌, ◌≤◌, ◌<◌}
use native.Mathlib.Omega.{arith}
use native.Mathlib.Nat.{eq-zero-or-pos, le_of_eq, suc-mul, mul-one, mul_assoc, mul-div_cancel, mul-le-mul_right, le_trans, le_of_suc-le-suc, lt_of_le_of_lt, suc-add, mod-eq_of_lt}
use mathlib.Core.Logic.{⊎_elim}
use mathlib.Core.Path.{◌≡◌, sym, ap, ◌∙◌}
use lib.Pow.{pow_pos, pow-add, pow_mono, shl_lt}
use lib.Count.{count_leading_zeros, leading_top}
use lib.Ieee.{size}
use Rattle.root.specs.Root.{nearest_root, pairs, scaled}
use Rattle.root.proofs.Isqrt.{nearest_small}
use Rattle.root.proofs.Powers.{lt_pow, pow_lt_back, size_is, four_pow}

-- q has `zeros` leading zeros of 64, and its highest digit stands at place j
pub record Placed (q zeros : ℕ) : Type 0 where
  pub j : ℕ
  pub sum : zeros + suc j ≡ 64
  pub low : 2 ^ j ≤ q
  pub high : q < 2 ^ suc j
  pub small : j ≤ 52

pub placed : (q : ℕ) → 0 < q → q < 2 ^ 53 → Placed q (count_leading_zeros 64 q)
placed q p h =
    let t = leading_top 64 q p (lt_pow q 53 64 h (omega arith)) in
    record { j = t.0; sum = t.1; low = t.2; high = t.3; small = le_of_suc-le-suc (pow_lt_back t.0 53 (lt_of_le_of_lt t.2 h)) }

module _ (q k zeros : ℕ) (t : Placed q zeros) where
  pub size_here : size (q * 2 ^ k) ≡ suc (t.j + k)
  size_here = size_is (q * 2 ^ k) (t.j + k) (rw (pow-add 2 t.j k) (mul-le-mul_right (2 ^ k) t.low)) (rw (← suc-add) (shl_lt (suc t.j) k t.high))

  -- how many digits q * 2 ^ k has, and one
  pub digits_are : k + 65 - zeros ≡ size (q * 2 ^ k) + 1
  digits_are = rw size_here (omega arith)

  pairs_are : (k + 65 - zeros) / 2 ≡ pairs (q * 2 ^ k)
  unfolding pairs
  pairs_are = ap (λ (n : ℕ). n / 2) digits_are

  -- the exponent that the code answers
  pub exponent_is : (k + 1033 - zeros) / 2 ≡ pairs (q * 2 ^ k) + 484
  exponent_is = omega (arith, pairs_are)

  -- how far the code shifts q
  abbrev shift : ℕ
  shift = zeros - 11 + (k + 65 - zeros) % 2

  shifted_lt : q * 2 ^ shift < 2 ^ 54
  shifted_lt = lt_pow (q * 2 ^ shift) (suc t.j + shift) 54 (shl_lt (suc t.j) shift t.high) (omega arith)

  shifted_ge : 2 ^ 52 ≤ q * 2 ^ shift
  shifted_ge =
      let e : 2 ^ (t.j + shift) ≤ q * 2 ^ shift = rw (pow-add 2 t.j shift) (mul-le-mul_right (2 ^ shift) t.low) in
      let m : 52 ≤ t.j + shift = omega arith in
      le_trans (pow_mono m) e

  -- what the code hands on, with 52 zeros behind it, is document 01's M: with the powers of four it is the whole of q * 2 ^ k
  exact : q * 2 ^ k * 4 ^ 53 ≡ q * 2 ^ shift * 2 ^ 52 * 4 ^ pairs (q * 2 ^ k)
  exact =
      let p = pairs (q * 2 ^ k) in
      let e : k + 106 ≡ shift + 52 + (p + p) = omega (arith, pairs_are) in
      mul_assoc q (2 ^ k) (2 ^ 106)
      ∙ ap (λ (n : ℕ). q * n) (sym (pow-add 2 k 106) ∙ ap (λ (n : ℕ). 2 ^ n) e ∙ pow-add 2 (shift + 52) (p + p) ∙ ap (λ (n : ℕ). n * 2 ^ (p + p)) (pow-add 2 shift 52))
      ∙ sym (mul_assoc q (2 ^ shift * 2 ^ 52) (2 ^ (p + p)))
      ∙ ap (λ (n : ℕ). n * 2 ^ (p + p)) (sym (mul_assoc q (2 ^ shift) (2 ^ 52)))
      ∙ ap (λ (n : ℕ). q * 2 ^ shift * 2 ^ 52 * n) (sym (four_pow p))

  scaled_is : q * 2 ^ shift * 2 ^ 52 ≡ scaled (q * 2 ^ k)
  unfolding scaled
  scaled_is =
      let p = pairs (q * 2 ^ k) in
      sym (ap (λ (n : ℕ). n / 4 ^ p) exact ∙ mul-div_cancel (q * 2 ^ shift * 2 ^ 52) (rw (four_pow p) (pow_pos (p + p))))

  pub scaled_exact : q * 2 ^ k * 4 ^ 53 ≡ scaled (q * 2 ^ k) * 4 ^ pairs (q * 2 ^ k)
  scaled_exact = exact ∙ ap (λ (n : ℕ). n * 4 ^ pairs (q * 2 ^ k)) scaled_is

  -- A shift by z, which is that far, loses nothing. The code's own z stands in the goals that cite this.
  shifted_whole : (z : ℕ) → z ≡ shift → q * 2 ^ z % 2 ^ 64 ≡ q * 2 ^ shift
  shifted_whole z e = ap (λ (y : ℕ). q * 2 ^ y % 2 ^ 64) e ∙ mod-eq_of_lt (lt_pow (q * 2 ^ shift) 54 64 shifted_lt (omega arith))

  pub significand_is : (z : ℕ) → z ≡ shift → q * 2 ^ z % 2 ^ 64 * 2 ^ 52 ≡ scaled (q * 2 ^ k)
  significand_is z e = ap (λ (y : ℕ). y * 2 ^ 52) (shifted_whole z e) ∙ scaled_is

  -- M lies in its range, and is no nearer to 2 ^ 106 than a number of 53 significant digits can be
  shifted_below : q * 2 ^ shift + 2 ≤ 2 ^ 54
  shifted_below =
      let a : q * 2 ^ shift + 2 ^ shift ≤ 2 ^ suc t.j * 2 ^ shift = le_trans (le_of_eq (sym (suc-mul q (2 ^ shift)))) (mul-le-mul_right (2 ^ shift) t.high) in
      let b : 2 ^ (suc t.j + shift) ≤ 2 ^ 54 = let l : suc t.j + shift ≤ 54 = omega arith in pow_mono l in
      ⊎_elim
      (λ (z : shift ≡ 0). rw (z, mul-one q) (omega (arith, lt_pow q (suc t.j) 53 t.high (omega arith))))
      (λ (p : 0 < shift). let two : 2 ^ 1 ≤ 2 ^ shift = pow_mono p in omega (arith, pow-add 2 (suc t.j) shift))
      (eq-zero-or-pos shift)

  pub scaled_range : (2 ^ 104 ≤ scaled (q * 2 ^ k)) × (scaled (q * 2 ^ k) + 2 ^ 53 ≤ 2 ^ 106)
  scaled_range = omega (arith, scaled_is, shifted_ge, shifted_below)

-- the same of every q of 1 to 53 digits: what the code normalises it to, and how large its parts get
module _ (q k : ℕ) (p : 0 < q) (h : q < 2 ^ 53) where
  pub significand_small : (s : ℕ) → s * 2 ^ 52 ≡ scaled (q * 2 ^ k) → s < 2 ^ 54
  significand_small s e = let r = scaled_range q k _ (placed q p h) in omega arith

  pub pairs_high : k ≤ 2045 → pairs (q * 2 ^ k) ≤ 1049
  pairs_high l = let t = placed q p h in omega (arith, pairs_are q k _ t)

  pub root_small : nearest_root (scaled (q * 2 ^ k)) ≤ 2 ^ 53
  root_small = let r = scaled_range q k _ (placed q p h) in nearest_small (scaled (q * 2 ^ k)) (omega arith) (omega arith)

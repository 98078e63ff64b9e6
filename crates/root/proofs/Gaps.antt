-- Numbers of 53 significant digits leave gaps: beside R * 2 ^ c, with R of 53 digits, the next is (R + 1) * 2 ^ c above, and (R - 1) * 2 ^ c below unless R is the smallest.
use Prim.Native.Nat.{ℕ, suc, ◌+◌, ◌-◌, ◌*◌, ◌^◌, ◌≤◌, ◌<◌}
use native.Mathlib.Omega.{arith}
use native.Mathlib.Nat.{mul_assoc, mul-le-mul_right, mul-lt-mul_of_pos_right, lt_of_mul-lt-mul_right, le_trans, le_of_eq, pow-suc}
use mathlib.Core.Logic.{⊎_elim}
use mathlib.Core.Path.{◌≡◌, sym, ap, subst, ◌∙◌}
use lib.Pow.{pow_pos, pow-add, pow_mono}
use Rattle.numbers.proofs.Ways.{lt_or_le}

module _ (m j c : ℕ) (small : m < 2 ^ 53) where
  -- with an exponent from c on it is a multiple of 2 ^ c; below, it is under 2 ^ 52 * 2 ^ c
  multiple : c ≤ j → m * 2 ^ j ≡ m * 2 ^ (j - c) * 2 ^ c
  multiple l =
      let e : j - c + c ≡ j = omega arith in
      ap (λ (x : ℕ). m * 2 ^ x) (sym e) ∙ ap (λ (x : ℕ). m * x) (pow-add 2 (j - c) c) ∙ sym (mul_assoc m (2 ^ (j - c)) (2 ^ c))

  under : j < c → m * 2 ^ j < 2 ^ 52 * 2 ^ c
  under l =
      let a : m * 2 ^ j < 2 ^ 53 * 2 ^ j = mul-lt-mul_of_pos_right small (pow_pos j) in
      let b : 2 ^ suc j ≤ 2 ^ c = pow_mono l in
      omega (arith, pow-suc 2 j)

  pub gap_up : (R : ℕ) → 2 ^ 52 ≤ R → R * 2 ^ c < m * 2 ^ j → (R + 1) * 2 ^ c ≤ m * 2 ^ j
  gap_up R low h =
      ⊎_elim
      (λ (l : j < c). absurd (let b : 2 ^ 52 * 2 ^ c ≤ R * 2 ^ c = mul-le-mul_right (2 ^ c) low in omega (arith, under l)))
      (λ (l : c ≤ j).
      let e = multiple l in
      let x : R < m * 2 ^ (j - c) = lt_of_mul-lt-mul_right (2 ^ c) (subst (λ (y : ℕ). R * 2 ^ c < y) e h) in
      let y : R + 1 ≤ m * 2 ^ (j - c) = omega arith in
      le_trans (mul-le-mul_right (2 ^ c) y) (le_of_eq (sym e)))
      (lt_or_le j c)

  pub gap_down : (R : ℕ) → 2 ^ 52 ≤ R → m * 2 ^ j < (R + 1) * 2 ^ c → m * 2 ^ j ≤ R * 2 ^ c
  gap_down R low h =
      ⊎_elim
      (λ (l : j < c). let b : 2 ^ 52 * 2 ^ c ≤ R * 2 ^ c = mul-le-mul_right (2 ^ c) low in omega (arith, under l))
      (λ (l : c ≤ j).
      let e = multiple l in
      let x : m * 2 ^ (j - c) < R + 1 = lt_of_mul-lt-mul_right (2 ^ c) (subst (λ (y : ℕ). y < (R + 1) * 2 ^ c) e h) in
      let y : m * 2 ^ (j - c) ≤ R = omega arith in
      le_trans (le_of_eq e) (mul-le-mul_right (2 ^ c) y))
      (lt_or_le j c)

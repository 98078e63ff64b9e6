-- Theorem 2 over whole numbers: with r = R * 2 ^ c the root found and M * 4 ^ c the square of the true one, every other number of 53 significant digits
-- has its midpoint with r strictly on its own side.
use Prim.Native.Nat.{ℕ, ◌+◌, ◌-◌, ◌*◌, ◌^◌, ◌≤◌, ◌<◌, zero-le}
use native.Mathlib.Omega.{arith}
use native.Mathlib.Nat.{le_refl, le_of_lt, mul-le-mul, mul-lt-mul_of_pos_right, mul-le-mul_right, mul-pos, lt_of_le_of_lt, mul-mul-mul_comm, eq-or-lt_of_le, sub-le}
use mathlib.Core.Bool.{false}
use mathlib.Core.Logic.{inl, inr, ⊎_elim}
use mathlib.Core.Path.{◌≡◌, sym, subst, ◌∙◌}
use lib.Pow.{pow_pos}
use Rattle.root.proofs.Isqrt.{Near}
use Rattle.root.specs.Nearest.{YsSide}
use Rattle.numbers.proofs.Ways.{lt_or_le}
use Rattle.root.proofs.Gaps.{gap_up, gap_down}

-- squares of multiples
below_square : (a b x M : ℕ) → 0 < x → a ≤ b * x → b * b < 4 * M → a * a < 4 * (M * (x * x))
below_square a b x M p h l =
    let u : a * a ≤ b * b * (x * x) = subst (λ (y : ℕ). a * a ≤ y) (mul-mul-mul_comm b x b x) (mul-le-mul h h) in
    let v : b * b * (x * x) < 4 * M * (x * x) = mul-lt-mul_of_pos_right l (mul-pos p p) in
    omega arith

above_square : (a b x M : ℕ) → 0 < x → b * x ≤ a → 4 * M < b * b → 4 * (M * (x * x)) < a * a
above_square a b x M p h l =
    let u : b * b * (x * x) ≤ a * a = subst (λ (y : ℕ). y ≤ a * a) (mul-mul-mul_comm b x b x) (mul-le-mul h h) in
    let v : 4 * M * (x * x) < b * b * (x * x) = mul-lt-mul_of_pos_right l (mul-pos p p) in
    omega arith

square_lt : (a b : ℕ) → a < b → a * a < b * b
square_lt a b h = lt_of_le_of_lt (mul-le-mul (le_refl a) (le_of_lt h)) (mul-lt-mul_of_pos_right h (lt_of_le_of_lt zero-le h))

module _ (R M c : ℕ) (near : Near R M) (low : 2 ^ 52 ≤ R) (M-low : 2 ^ 104 ≤ M) where
  abbrev x : ℕ
  x = 2 ^ c

  abbrev r : ℕ
  r = R * x

  -- at or below zero
  pub side_minus : (y : ℕ) → (r - y) * (r - y) < 4 * (M * (x * x))
  side_minus y = let g : R ≤ 2 * R - 1 = omega arith in below_square (r - y) R x M (pow_pos c) (sub-le r y) (lt_of_le_of_lt (mul-le-mul g g) near.0)

  -- above zero, with at most 53 significant digits
  module _ (m j : ℕ) (small : m < 2 ^ 53) where
    abbrev y : ℕ
    y = m * 2 ^ j

    pub side_up : r < y → 4 * (M * (x * x)) < (r + y) * (r + y)
    side_up h = above_square (r + y) (2 * R + 1) x M (pow_pos c) (let g : (R + 1) * x ≤ y = gap_up m j c small R low h in omega arith) near.1

    pub side_down : y < r → (r + y) * (r + y) < 4 * (M * (x * x))
    side_down h =
        ⊎_elim
        (λ (e : 2 ^ 52 ≡ R).
        let g : R * R ≤ M = subst (λ (z : ℕ). z * z ≤ M) e M-low in
        let k : R * R * (x * x) ≤ M * (x * x) = mul-le-mul_right (x * x) g in
        let s : (r + y) * (r + y) < (2 * r) * (2 * r) = square_lt (r + y) (2 * r) (omega arith) in
        omega arith)
        (λ (l : 2 ^ 52 < R).
        let Q = R - 1 in
        let e : Q + 1 ≡ R = omega arith in
        let q : 2 * R - 1 ≡ Q + R = omega arith in
        let g : y ≤ Q * x = gap_down m j c small Q (omega arith) (subst (λ (z : ℕ). y < z * x) (sym e) h) in
        below_square (r + y) (2 * R - 1) x M (pow_pos c) (rw q (omega arith)) near.0)
        (eq-or-lt_of_le low)

  pub side_plus : (y m j : ℕ) → y ≡ m * 2 ^ j → m < 2 ^ 53 → (y ≡ r → ⊥) → YsSide (M * (x * x)) r false y
  side_plus y m j e small o =
      subst (λ (z : ℕ). YsSide (M * (x * x)) r false z) (sym e)
      (⊎_elim
      (λ (l : m * 2 ^ j < r). inl (l, side_down m j small l))
      (λ (l : r ≤ m * 2 ^ j). ⊎_elim (λ (q : r ≡ m * 2 ^ j). absurd (o (e ∙ sym q))) (λ (g : r < m * 2 ^ j). inr (g, side_up m j small g)) (eq-or-lt_of_le l))
      (lt_or_le (m * 2 ^ j) r))

-- A whole number close to a root, its square in two parts, and which of it and its neighbours is nearest.
use Prim.Native.Nat.{ℕ, ◌+◌, ◌-◌, ◌*◌, ◌/◌, ◌%◌, ◌^◌, ◌≤◌, ◌<◌}
use native.Mathlib.Omega.{arith}
use native.Mathlib.Nat.{mul-le-mul}
use mathlib.Core.Bool.{Bool, true, false}
use mathlib.Core.Logic.{⊎_elim}
use mathlib.Core.Path.{◌≡◌, refl, subst}
use lib.Dec.{ltb, leb}
use mir.Val.{bool_byte}
use borrow.Author.Tests.{ltb-true, ltb-false, leb-true, leb-false}
use Rattle.numbers.proofs.Ways.{lt_or_le}
use Rattle.root.specs.Root.{nearest_root}
use Rattle.root.proofs.Isqrt.{found_up, found_down}

-- a test as a number
bit_le : (t : Bool) → bool_byte t ≤ 1
bit_le true = omega arith
bit_le false = omega arith

-- g is nearest where n lies above g * g - g and is at most g * g + g
nearest_is : (r n : ℕ) → n < 4 ^ 53 → n ≤ (r + 1) * (r + 1) + (r + 1) → (r + 1) * (r + 1) < n + (r + 1) → r + 1 ≡ nearest_root n
nearest_is r n h above below =
    ⊎_elim
    (λ (l : n < (r + 1) * (r + 1)). found_up r (n - r * r) n (omega arith) (omega arith) h (omega arith))
    (λ (l : (r + 1) * (r + 1) ≤ n). found_down (r + 1) (n - (r + 1) * (r + 1)) n (omega arith) (omega arith) h (omega arith))
    (lt_or_le n ((r + 1) * (r + 1)))

-- g and its neighbours, r being g - 2, where the number lies n - m above the square of g
module _ (r m n N : ℕ) (e : (r + 2) * (r + 2) + n ≡ N + m) (h : N < 4 ^ 53) (low : m + 2 < n + 3 * (r + 2)) (high : n ≤ m + 3 * (r + 2) + 2) where
  abbrev g : ℕ
  g = r + 2

  by_tests : (up down : Bool) → ltb (m + g) n ≡ up → leb (n + g) m ≡ down → g + bool_byte up - bool_byte down ≡ nearest_root N
  by_tests true true u d = absurd (let a = ltb-true (m + g) n u in let b = leb-true (n + g) m d in omega arith)
  by_tests true false u d = let a = ltb-true (m + g) n u in let k : r + 2 + 1 ≡ nearest_root N = nearest_is (r + 2) N h (omega arith) (omega arith) in omega arith
  by_tests false true u d = let b = leb-true (n + g) m d in let k : r + 1 ≡ nearest_root N = nearest_is r N h (omega arith) (omega arith) in omega arith
  by_tests false false u d =
      let a = ltb-false (m + g) n u in
      let b = leb-false (n + g) m d in
      let k : r + 1 + 1 ≡ nearest_root N = nearest_is (r + 1) N h (omega arith) (omega arith) in
      omega arith

-- the same of any g above 1
settled : (g m n N : ℕ) → 2 ≤ g → N < 4 ^ 53 → g * g + n ≡ N + m → m + 2 < n + 3 * g → n ≤ m + 3 * g + 2
    → g + bool_byte (ltb (m + g) n) - bool_byte (leb (n + g) m) ≡ nearest_root N
settled g m n N p h =
    let r = g - 2 in
    let back : r + 2 ≡ g = omega arith in
    subst
    (λ (x : ℕ). x * x + n ≡ N + m → m + 2 < n + 3 * x → n ≤ m + 3 * x + 2 → x + bool_byte (ltb (m + x) n) - bool_byte (leb (n + x) m) ≡ nearest_root N)
    back
    (λ e low high. by_tests r m n N e h low high (ltb (m + (r + 2)) n) (leb (n + (r + 2)) m) refl refl)

-- the square of a * 2 ^ 22 + b, in whole units of 2 ^ 44 and what is left
square : (g a b p q : ℕ) → a * 2 ^ 22 + b ≡ g → p * 2 ^ 21 + q ≡ a * b → g * g ≡ (a * a + p) * 2 ^ 44 + (q * 2 ^ 23 + b * b)
square g a b p q e f = rw (← e) (omega arith)

module _ (s g : ℕ) (s-small : s < 2 ^ 54) (g-low : 2 ^ 52 ≤ g) (g-high : g < 3 * 2 ^ 52) where
  abbrev a : ℕ
  a = g / 2 ^ 22

  abbrev b : ℕ
  b = g % 2 ^ 22

  abbrev whole : ℕ
  whole = a * a + a * b / 2 ^ 21

  abbrev n : ℕ
  n = (s * 256 + 766 - whole) * 2 ^ 44

  abbrev m : ℕ
  m = a * b % 2 ^ 21 * 2 ^ 23 + b * b + 766 * 2 ^ 44

  pub steps : (bool_byte (ltb (m + g) n) ≤ 1) × (bool_byte (leb (n + g) m) ≤ 1)
  steps = (bit_le (ltb (m + g) n), bit_le (leb (n + g) m))

  pub squares : (a * a ≤ 3 * 2 ^ 30 * (3 * 2 ^ 30)) × (a * b ≤ 3 * 2 ^ 30 * 2 ^ 22) × (b * b ≤ (2 ^ 22 - 1) * (2 ^ 22 - 1))
  squares =
      let al : a ≤ 3 * 2 ^ 30 = omega arith in
      let bl : b ≤ 2 ^ 22 = omega arith in
      let bb : b ≤ 2 ^ 22 - 1 = omega arith in
      (mul-le-mul al al, mul-le-mul al bl, mul-le-mul bb bb)

  -- what the code answers in the span that it looks at
  pub answer : whole ≤ s * 256 + 766 → s * 256 + 766 - whole ≤ 1534 → g + bool_byte (ltb (m + g) n) - bool_byte (leb (n + g) m) ≡ nearest_root (s * 2 ^ 52)
  answer l h =
      let t = squares in
      let e = square g a b (a * b / 2 ^ 21) (a * b % 2 ^ 21) (omega arith) (omega arith) in
      settled g m n (s * 2 ^ 52) (omega arith) (omega arith) (omega arith) (omega arith) (omega arith)

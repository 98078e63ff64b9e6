-- The whole part of a square root, and the whole number nearest to the root.
use Prim.Native.Nat.{ℕ, zero, suc, ◌+◌, ◌-◌, ◌*◌, ◌/◌, ◌^◌, ◌≤◌, ◌<◌}
use native.Mathlib.Omega.{arith}
use native.Mathlib.Nat.{mul-le-mul, lt_of_not-le, not-le_of_lt, pow-suc}
use native.Mathlib.Numerals.{add-one}
use mathlib.Core.Bool.{Bool, true, false, cond}
use mathlib.Core.Path.{◌≡◌, refl}
use lib.Dec.{leb}
use borrow.Author.Tests.{leb-true, leb-false, le-leb, lt-leb}
use Rattle.root.specs.Root.{isqrt, nearest_root}

-- r is the whole part of the root of n
abbrev pub Floor : ℕ → ℕ → Type 0
Floor r n = (r * r ≤ n) × (n < (r + 1) * (r + 1))

-- document 01's bounds on the root R of M
abbrev pub Near : ℕ → ℕ → Type 0
Near r n = ((2 * r - 1) * (2 * r - 1) < 4 * n) × (4 * n < (2 * r + 1) * (2 * r + 1))

-- of two numbers, the one with the smaller square is the smaller
pub root_mono : (a b : ℕ) → a * a < b * b → a < b
root_mono a b h = lt_of_not-le (λ (g : b ≤ a). not-le_of_lt h (mul-le-mul g g))

pub floor_unique : (r s n : ℕ) → Floor r n → Floor s n → r ≡ s
floor_unique r s n f g =
    let a : r < s + 1 = root_mono r (s + 1) (omega arith) in
    let b : s < r + 1 = root_mono s (r + 1) (omega arith) in
    omega arith

-- one more digit of the root: by whether the square of the larger candidate is still in n
next_digit : (s n : ℕ) → Floor s (n / 4) → (b : Bool) → leb ((2 * s + 1) * (2 * s + 1)) n ≡ b → Floor (cond b (2 * s + 1) (2 * s)) n
next_digit s n f true e = let h : (2 * s + 1) * (2 * s + 1) ≤ n = leb-true ((2 * s + 1) * (2 * s + 1)) n e in (h, omega arith)
next_digit s n f false e = let h : n < (2 * s + 1) * (2 * s + 1) = leb-false ((2 * s + 1) * (2 * s + 1)) n e in (omega arith, h)

pub isqrt_floor : (d n : ℕ) → n < 4 ^ d → Floor (isqrt d n) n
unfolding isqrt
isqrt_floor zero n h = omega arith
isqrt_floor (suc d) n h = next_digit (isqrt d (n / 4)) n (isqrt_floor d (n / 4) (omega (arith, pow-suc 4 d))) (leb ((2 * isqrt d (n / 4) + 1) * (2 * isqrt d (n / 4) + 1)) n) refl

less_half : (r : ℕ) → 2 * (r + 1) - 1 ≡ 2 * r + 1
less_half r = omega arith

-- the nearest whole number from the whole part: down where n is at most r * r + r, up from there on
down_near : (r n : ℕ) → Floor r n → 0 < n → n ≤ r * r + r → Near r n
down_near zero n f p h = absurd (omega arith)
down_near (suc r) n f p h = (rw (← (add-one r), less_half r) (omega arith), omega arith)

up_near : (r n : ℕ) → Floor r n → r * r + r < n → Near (r + 1) n
up_near r n f h = (rw (less_half r) (omega arith), omega arith)

picked : (r n : ℕ) → Floor r n → 0 < n → (b : Bool) → leb n (r * r + r) ≡ b → Near (cond b r (r + 1)) n
picked r n f p true e = down_near r n f p (leb-true n (r * r + r) e)
picked r n f p false e = up_near r n f (leb-false n (r * r + r) e)

pub nearest_near : (n : ℕ) → 0 < n → n < 4 ^ 53 → Near (nearest_root n) n
unfolding nearest_root
nearest_near n p h = picked (isqrt 53 n) n (isqrt_floor 53 n h) p (leb n (isqrt 53 n * isqrt 53 n + isqrt 53 n)) refl

-- what a loop that knows r * r + rest = n, with rest at most twice r, has found
module _ (r rest n : ℕ) (e : r * r + rest ≡ n) (l : rest ≤ 2 * r) (h : n < 4 ^ 53) where
  whole : isqrt 53 n ≡ r
  whole = floor_unique (isqrt 53 n) r n (isqrt_floor 53 n h) (omega arith, omega arith)

  pub found_up : r < rest → r + 1 ≡ nearest_root n
  unfolding nearest_root
  found_up g = simp (whole, lt-leb n (r * r + r) (omega arith))

  pub found_down : rest ≤ r → r ≡ nearest_root n
  unfolding nearest_root
  found_down g = simp (whole, le-leb n (r * r + r) (omega arith))

-- R has 53 binary digits: M has at least 105, and is no nearer to 2 ^ 106 than a number of 53 significant digits can be
pub digits_low : (r n : ℕ) → Near r n → 2 ^ 104 ≤ n → 2 ^ 52 ≤ r
digits_low r n f h = let g : 2 ^ 53 < 2 * r + 1 = root_mono (2 ^ 53) (2 * r + 1) (omega arith) in omega arith

pub digits_high : (r n : ℕ) → Near r n → n + 2 ^ 53 ≤ 2 ^ 106 → r < 2 ^ 53
digits_high r n f h = let g : 2 * r - 1 < 2 ^ 54 - 1 = root_mono (2 * r - 1) (2 ^ 54 - 1) (omega arith) in omega arith

-- whatever n is, the answer stays far within 64 bits
pub nearest_small : (n : ℕ) → 0 < n → n < 4 ^ 53 → nearest_root n ≤ 2 ^ 53
nearest_small n p h =
    let f = nearest_near n p h in
    let g : 2 * nearest_root n - 1 < 2 ^ 54 = root_mono (2 * nearest_root n - 1) (2 ^ 54) (omega arith) in
    omega arith

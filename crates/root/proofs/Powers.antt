-- Powers of two and of four, with every argument written out, and how many binary digits a number has.
use Prim.Native.Nat.{ℕ, zero, suc, ◌+◌, ◌*◌, ◌^◌, ◌≤◌, ◌<◌}
use native.Mathlib.Omega.{arith}
use native.Mathlib.Nat.{add-suc, suc-add, pow-suc, lt_of_lt_of_le, le_antisymm, lt_of_not-le, not-le_of_lt, le_of_suc-le-suc}
use native.Mathlib.Numerals.{add-one}
use mathlib.Core.Path.{◌≡◌, refl, ap, ◌∙◌}
use lib.Pow.{pow_mono, pow-lt}
use lib.Ieee.{size}
use lib.Ieee.Digits.{size-lt, size-le}

pub pow_next : (c n : ℕ) → c ^ (n + 1) ≡ c ^ n * c
pow_next c n = ap (λ (k : ℕ). c ^ k) (add-one n) ∙ pow-suc c n

pub lt_pow : (a i j : ℕ) → a < 2 ^ i → i ≤ j → a < 2 ^ j
lt_pow a i j h l = lt_of_lt_of_le h (pow_mono l)

-- powers are ordered as their exponents are
pub pow_lt_back : (i j : ℕ) → 2 ^ i < 2 ^ j → i < j
pow_lt_back i j h = lt_of_not-le (λ (g : j ≤ i). not-le_of_lt h (pow_mono g))

pub pow_le_back : (i j : ℕ) → 2 ^ i ≤ 2 ^ j → i ≤ j
pow_le_back i j h = le_of_suc-le-suc (lt_of_not-le (λ (g : suc j ≤ i). not-le_of_lt (pow-lt g) h))

pub size_is : (n j : ℕ) → 2 ^ j ≤ n → n < 2 ^ suc j → size n ≡ suc j
size_is n j a b = le_antisymm (size-le n (suc j) b) (lt_of_not-le (λ (g : size n ≤ j). not-le_of_lt (lt_pow n (size n) j (size-lt n) g) a))

-- a power of four is a power of two
pub four_pow : (n : ℕ) → 4 ^ n ≡ 2 ^ (n + n)
four_pow zero = refl
four_pow (suc n) = rw (suc-add, add-suc, pow-suc 2 (suc (n + n)), pow-suc 2 (n + n), pow-suc 4 n, four_pow n) (omega arith)

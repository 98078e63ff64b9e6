-- What it means that a root is correctly rounded, over whole numbers. 01, The square root; IEEE 754-2019, 4.3.1 and 5.4.1.
use Rattle.std.specs.Prelude.{ℕ, suc, ◌+◌, ◌-◌, ◌*◌, ◌^◌, ◌≤◌, ◌<◌, Bool, true, false, ◌⊎◌, ◌≡◌, ℤ, T, Float}
use Rattle.std.specs.Float.{nan, inf, fin, binary64}
use Rattle.std.specs.Float.Ieee.{fits}
use Rattle.std.specs.Float.Ieee.Exact.{HasValue}
use Rattle.root.specs.Root.{in_units}

-- a positive finite number
abbrev pub Positive : Float → Type 0
Positive a = (m : ℕ) × (e : ℤ) × (fin false (suc m) e ≡ a)

-- Document 01's words, with k = j - 590: a is M * 4 ^ k and r is R * 2 ^ k. `HasValue x false p q` says that x is + p / q, exactly.
pub record AsDocumented (a r : Float) : Type 0 where
  pub M : ℕ
  pub R : ℕ
  pub j : ℕ
  pub a_is : HasValue a false (M * 4 ^ j) (4 ^ 590)
  pub r_is : HasValue r false (R * 2 ^ j) (2 ^ 590)
  pub M-range : (2 ^ 104 ≤ M) × (M < 2 ^ 106)
  pub R-range : (2 ^ 52 ≤ R) × (R < 2 ^ 53)
  pub near : ((2 * R - 1) * (2 * R - 1) < 4 * M) × (4 * M < (2 * R + 1) * (2 * R + 1))
  pub r_fits : T (fits binary64 r)

-- A finite number's size in units of 2 ^ -1074. Every finite binary64 number is a whole number of them.
abbrev pub units_of : Float → ℕ
units_of nan = 0
units_of (inf s) = 0
units_of (fin s m e) = in_units m e

-- IEEE 754's words. For a of n units the true root, in units, is that of N = n * 2 ^ 1074. The midpoint of r and y, (r + y) / 2, lies strictly on y's side of it,
-- so y lies farther from the true root than r does: here with everything squared, and times 4. Where y is below zero, or -0.0, its side is that below the
-- root; there r - y is 0 where the midpoint is not above zero.
abbrev pub YsSide : ℕ → ℕ → Bool → ℕ → Type 0
YsSide N r false y = ((y < r) × ((r + y) * (r + y) < 4 * N)) ⊎ ((r < y) × (4 * N < (r + y) * (r + y)))
YsSide N r true y = (r - y) * (r - y) < 4 * N

-- Every finite binary64 number other than r lies farther from the true root of a, and never as near.
abbrev pub IsNearest : Float → Float → Type 0
IsNearest a r = (s : Bool) (k : ℕ) (d : ℤ) → T (fits binary64 (fin s k d)) → (fin s k d ≡ r → ⊥) → YsSide (units_of a * 2 ^ 1074) (units_of r) s (in_units k d)

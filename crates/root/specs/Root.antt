-- 01, The square root. `proofs/Rounded.antt` shows that `root` is what document 01 and IEEE 754 ask for.
use Rattle.std.specs.Prelude.{ℕ, zero, suc, ◌+◌, ◌*◌, ◌/◌, ◌^◌, true, false, cond, ℤ, leb, Float}
use Rattle.std.specs.Float.{nan, inf, fin}
use Rattle.std.specs.Float.Ieee.{up, down, size, odd}

-- the whole part of the square root of n, for an n below 4 ^ d
unfoldable pub isqrt : ℕ → ℕ → ℕ
isqrt zero n = zero
isqrt (suc d) n = let r = 2 * isqrt d (n / 4) in cond (leb ((r + 1) * (r + 1)) n) (r + 1) r

-- the whole number nearest to the square root of n, for an n below 4 ^ 53
unfoldable pub nearest_root : ℕ → ℕ
unfolding isqrt
nearest_root n = let r = isqrt 53 n in cond (leb n (r * r + r)) r (r + 1)

-- m * 2 ^ e in units of 2 ^ -1074, the smallest number above zero
unfoldable pub in_units : ℕ → ℤ → ℕ
in_units m e = m * up e * 2 ^ 1074 / down e

-- Of n units: how many digits of base 4 it has, and document 01's M, which has 53 of them. So n * 2 ^ -1074 = M * 4 ^ k with k = pairs n - 590.
unfoldable pub pairs : ℕ → ℕ
unfolding size
pairs n = (size n + 1) / 2

unfoldable pub scaled : ℕ → ℕ
unfolding pairs
scaled n = n * 4 ^ 53 / 4 ^ pairs n

-- R * 2 ^ k
unfoldable pub root_of : ℕ → Float
unfolding nearest_root scaled odd
root_of n = odd 53 false (nearest_root (scaled n)) (pairs n) 590

unfoldable pub root : Float → Float
unfolding in_units root_of
root nan = nan
root (inf false) = inf false
root (inf true) = nan
root (fin s zero e) = fin s zero e
root (fin true (suc m) e) = nan
root (fin false (suc m) e) = root_of (in_units (suc m) e)

-- A number in so many bytes: one more byte, and how large it can be.
use Prim.Native.Nat.{ℕ, ◌+◌, ◌*◌, ◌^◌, ◌≤◌, ◌<◌}
use native.Mathlib.Omega.{arith}
use native.Mathlib.Nat.{pow-suc, pow-le-pow_right}
use native.Mathlib.Numerals.{add-one}
use mathlib.Core.List.{List}
use mathlib.Core.Path.{◌≡◌, refl}
use Rattle.order.specs.Form.{byte_at, number_from}

pub none : (o : List ℕ) (at : ℕ) → 0 ≡ number_from o at 0
unfolding number_from
none o at = refl

pub more : (o : List ℕ) (at k w b : ℕ) → w ≡ number_from o at k → b ≡ byte_at o (at + k) → w * 256 + b ≡ number_from o at (k + 1)
unfolding number_from
more o at k w b e f = rw (e, f, add-one k)

pub fits_more : (k w b : ℕ) → w < 256 ^ k → b < 256 → w * 256 + b < 256 ^ (k + 1)
fits_more k w b h g = rw (add-one k, pow-suc 256 k) (let q = 256 ^ k in omega arith)

-- up to eight bytes fit
pub small : (k w : ℕ) → k < 8 → w < 256 ^ k → w < 0x100_0000_0000_0000
small k w h g = let s : k ≤ 7 = omega arith in let p : 256 ^ k ≤ 256 ^ 7 = pow-le-pow_right (omega arith) s in omega (arith, g, p)

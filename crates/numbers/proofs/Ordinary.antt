-- Numbers of ordinary size and ordinary divisors, as the calculus of sizes takes them: within 2 ^ 80, and at least 2 ^ -40.
use Prim.Native.Nat.{ℕ}
use mathlib.Core.Bool.{true, false}
use mathlib.Core.Path.{◌≡◌, refl}
use lib.IntN.{pos, negsuc}
use lib.Dec.{lit<, lit≤}
use lib.Ieee.{Float, neg, le, of_bits}
use Rattle.numbers.specs.Words.{◌⊖◌, ◌⊗◌, ◌⊘◌, one, most_size, least_divisor, ordinary_size, ordinary_divisor}
use Rattle.numbers.proofs.Every.{and_split}
use Rattle.numbers.proofs.Bounds.{Within, Low, within_finite, wider, difference_within, product_within, quotient_within}
use Rattle.numbers.proofs.Low.{low_up, product_low}
use Rattle.numbers.proofs.Ratios.{one_within}
use Rattle.numbers.proofs.Sided.{sided_within}

most_within : Within 80 most_size
unfolding of_bits
most_within = record { sign = false; part = 1; power = pos 80; is = refl; size = lit≤ tt }

least_low : Low 40 least_divisor
unfolding of_bits
least_low = record { part = 1; power = negsuc 39; is = refl; size = lit≤ tt }

pub size_within : (x : Float) → ordinary_size x ≡ true → Within 80 x
size_within x h = let p = and_split (le (neg most_size) x) (le x most_size) h in sided_within x most_within p.0 p.1

pub divisor_low : {k : ℕ} (x : Float) → Within k x → ordinary_divisor x ≡ true → Low 40 x
divisor_low x w h = low_up x least_low h (within_finite w)

-- the square of a divisor
pub square_low : {x : Float} → Within 81 x → Low 40 x → Low 80 (x ⊗ x)
square_low w l = product_low 79 l l (within_finite (product_within w w tt)) refl (lit< tt)

-- the place of x in a period
pub place_within : {x x0 length : Float} → Within 80 x → Within 80 x0 → Low 40 length → Within 121 ((x ⊖ x0) ⊘ length)
place_within w w0 l = quotient_within (difference_within w w0 tt) l tt

-- and in a shape that is squeezed by a ratio to one end of it, or to the other
module _ {v ratio : Float} (w : Within 121 v) (l : Low 40 ratio) where
  pub before_within : Within 163 (v ⊘ ratio)
  before_within = wider (quotient_within w l tt) tt

  pub after_within : Within 163 (one ⊖ (one ⊖ v) ⊘ ratio)
  after_within = difference_within one_within (quotient_within (difference_within one_within w tt) l tt) tt

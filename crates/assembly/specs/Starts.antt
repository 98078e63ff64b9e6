-- 02, K1: the tables of ordinary size, of which it is known what each section that is not split, or split in the usual way, gives back at its own left knot.
use Rattle.std.specs.Prelude.{ℕ, ◌+◌, ◌-◌, Bool, true, ◌&&◌, List, ◌⊎◌, ◌≡◌, Float, length, None, Option, Some}
use Rattle.std.specs.Float.{binary64}
use Rattle.std.specs.Float.Ieee.{le, neg, of_bits}
use Rattle.numbers.specs.Every.{all_below}
use Rattle.numbers.specs.Words.{◌⊖◌, zero}
use Rattle.table.specs.Table.{at}
use Rattle.table.specs.declared.ends.Frame.{Frame}
use Rattle.table.specs.declared.ends.Seam.{Seam}
use Rattle.table.specs.declared.method.ConvexMonotone.{ConvexMonotone}
pub use Rattle.choice.specs.Starts.{split_in, unusual_in, start_of}

-- 2 ^ 398
abbrev pub farthest_knot : Float
farthest_knot = of_bits binary64 0x58d0_0000_0000_0000

-- 2 ^ -400
abbrev pub shortest : Float
shortest = of_bits binary64 0x26f0_0000_0000_0000

-- 2 ^ 150
abbrev pub highest : Float
highest = of_bits binary64 0x4950_0000_0000_0000

-- 1 - 2 ^ -20
abbrev pub almost_one : Float
almost_one = of_bits binary64 0x3fef_fffe_0000_0000

-- knots that rise lie between the first and the last
abbrev pub knots_modest : List Float → Bool
knots_modest x = le (neg farthest_knot) (at x 0) && le (at x (length x - 1)) farthest_knot

-- no bend at the end of a period
abbrev pub method_modest : ConvexMonotone → Bool
method_modest method = le zero method.monotonicity && le method.monotonicity almost_one

-- a price of either sign
abbrev pub price_modest : Float → Bool
price_modest y = le (neg highest) y && le y highest

-- the node that a seam gives
abbrev pub seam_modest : Option Seam → Bool
seam_modest None = true
seam_modest (Some s) = price_modest s.node

-- period i + 1: its average, and a length that is not next to nothing, so that a slope over it is finite
abbrev pub period_modest : List Float → List Float → ℕ → Bool
period_modest x y i = price_modest (at y (i + 1)) && le shortest (at x (i + 1) ⊖ at x i)

-- all of it, as one test that a program makes
unfoldable pub modest : List Float → List Float → Frame → Bool
unfolding all_below
modest x y frame = knots_modest x && (method_modest frame.method && (seam_modest frame.seam && all_below (length x - 1) (period_modest x y)))

-- the frame of a whole table: two points are held, or both ends are free
abbrev pub HeldOrFree : List Float → Frame → Type 0
HeldOrFree x frame = ((length x ≡ 2) × (frame.hold ≡ true)) ⊎ ((frame.left ≡ None) × (frame.right ≡ None))

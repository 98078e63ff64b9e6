-- 01, The order program: what the bytes of an order say.
use Rattle.std.specs.Prelude.{ℕ, zero, suc, ◌+◌, ◌*◌, ◌/◌, ◌%◌, Bool, ◌&&◌, List, [], ◌∷◌, ◌++◌, eqb, leb, Float, length, get_or}
use Rattle.std.specs.Float.{binary64}
use Rattle.std.specs.Float.Ieee.{of_bits}
use Rattle.table.specs.Method.{new}
use Rattle.table.specs.declared.method.ConvexMonotone.{ConvexMonotone}

abbrev pub byte_at : List ℕ → ℕ → ℕ
byte_at o i = get_or o i 0

-- so many bytes from a place on, the most significant first
unfoldable pub number_from : List ℕ → ℕ → ℕ → ℕ
number_from o at zero = 0
number_from o at (suc k) = number_from o at k * 256 + byte_at o (at + k)

abbrev pub number_at : List ℕ → ℕ → Float
number_at o at = of_bits binary64 (number_from o at 8)

-- the header, 32 bits: positivity, hold, allow, five zeros, points, queries
abbrev pub header_of : List ℕ → ℕ
header_of o = number_from o 0 4

abbrev pub bit_of : ℕ → ℕ → Bool
bit_of h worth = eqb (h / worth % 2) 1

abbrev pub points_of : ℕ → ℕ
points_of h = h / 4096 % 4096

abbrev pub queries_of : ℕ → ℕ
queries_of h = h % 4096

abbrev pub well_formed : List ℕ → Bool
well_formed o =
    let h = header_of o in
    eqb (h / 0x100_0000 % 32) 0 && (leb (points_of h) 200 && (leb (queries_of h) 64 && eqb (length o) (20 + 16 * points_of h + 8 * queries_of h)))

-- f 0, f 1, .., f (n - 1)
unfoldable pub list_of : {A : Type 0} → ℕ → (ℕ → A) → List A
list_of zero f = []
list_of (suc n) f = list_of n f ++ (f n ∷ [])

module _ (o : List ℕ) where
  abbrev pub points : ℕ
  points = points_of (header_of o)

  abbrev pub queries : ℕ
  queries = queries_of (header_of o)

  abbrev pub hold : Bool
  hold = bit_of (header_of o) 0x4000_0000

  abbrev pub allow : Bool
  allow = bit_of (header_of o) 0x2000_0000

  -- the bytes have no place for a split and mean the original's
  abbrev pub method : ConvexMonotone
  method = new (number_at o 4) (number_at o 12) (bit_of (header_of o) 0x8000_0000)

  abbrev pub knots : List Float
  knots = list_of points (λ i. number_at o (20 + 8 * i))

  abbrev pub averages : List Float
  averages = list_of points (λ i. number_at o (20 + 8 * points + 8 * i))

-- 02, K1: what is claimed of strips between adjoining places, and what is not.
use Rattle.std.specs.Prelude.{ℕ, List, [], ◌∷◌, Float}
use Rattle.std.specs.Float.{binary64}
use Rattle.std.specs.Float.Ieee.{of_bits}
use Rattle.numbers.specs.Words.{◌⊖◌, ◌⊗◌, zero, one, two}
use Rattle.table.specs.Table.{at}
use Rattle.query.specs.Query.{number_in}
use Rattle.column.specs.Between.{between_at}

-- what a strip between two places comes to in all: its price, by its bits, times its length
abbrev pub amount : List Float → List Float → ℕ → ℕ → Float
amount x column i j = number_in (between_at x column i j) ⊗ (at x j ⊖ at x i)

-- two days, with the totals 0, 0.2 and 0.9 at their edges
abbrev pub edges : List Float
edges = zero ∷ one ∷ two ∷ []

abbrev pub totals : List Float
totals = zero ∷ of_bits binary64 0x3fc9_9999_9999_999a ∷ of_bits binary64 0x3fec_cccc_cccc_cccd ∷ []

-- 01, Refusal numbers: growth. What growth is handed of the previous curve across the boundary.
use Rattle.growth.specs.Growth.{Previous}
use Rattle.std.specs.Prelude.{ℕ, Bool, true, false, None, Some}
use Rattle.numbers.specs.Words.{zero}

-- growth reads how many sections there were and whether the last was held, and no more
abbrev pub previous_of : Bool → ℕ → Bool → Previous
previous_of false sections held = None
previous_of true sections held =
    Some (record { sections = sections; held = held; extrapolates = false; tail = record { value = zero; total = zero; from = zero } })

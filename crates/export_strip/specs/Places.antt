-- 02, K1: where the price of a strip between two places goes. K7: where one entry of a column goes.
use Rattle.std.specs.Prelude.{ℕ, cond, List, [], ltb, Float, length}
use Rattle.numbers.specs.OneOutcome.{pair}
use Rattle.query.specs.Query.{answer_in_numbers}
use Rattle.column.specs.Between.{between_at}
use Rattle.column.specs.Entry.{entry_of}
use Rattle.export_query.specs.Asking.{left_by}

-- With no room for the answer the strip is refused as one of an empty column is: by 4, 5, 7 and 10, and else by 11.
abbrev pub between_into : List Float → List Float → ℕ → ℕ → List Float → ℕ × List Float
between_into x column i j old =
    cond (ltb (length old) 1)
    (pair (answer_in_numbers (between_at x [] i j)).refusal old)
    (left_by (between_at x column i j) old)

-- With no room for the answer the entry is refused as one of an empty column is: by 11.
abbrev pub entry_into : List Float → ℕ → List Float → ℕ × List Float
entry_into column i old =
    cond (ltb (length old) 1)
    (pair (answer_in_numbers (entry_of [] i)).refusal old)
    (left_by (entry_of column i) old)

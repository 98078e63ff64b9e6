-- 02, K7: one entry of a column, with its mark.
use Rattle.query.specs.Query.{QueryAnswer}
use Rattle.std.specs.Prelude.{ℕ, cond, List, ltb, Float, length, Err, Ok}
use Rattle.numbers.specs.Marks.{mark}
use Rattle.refusal.specs.declared.Refusal.TheVariants.{BufferTooShort}
use Rattle.table.specs.Table.{at}

-- 11 for a place past the column's end
abbrev pub entry_of : List Float → ℕ → QueryAnswer
entry_of column i = cond (ltb i (length column)) (Ok (mark (at column i))) (Err BufferTooShort)

-- 01, Sheets. A sheet of a table, its part of the table, and what it answers of the whole.
use Rattle.table.specs.Table.{End}
use Rattle.std.specs.Prelude.{ℕ, ◌+◌, ◌-◌, List, Float, take, drop, None, Some}
use Rattle.numbers.specs.Words.{zero}
use Rattle.table.specs.declared.method.ConvexMonotone.{ConvexMonotone}
use Rattle.table.specs.declared.ends.Frame.{Frame}
use Rattle.assembly.specs.declared.sections.Tail.{Tail}
use Rattle.sheets.specs.Sheet.{sheet_frame, no_tail}
use Rattle.sheets.specs.declared.sheet.SheetEnd.{SheetEnd}

-- a sheet: its first and last knot, the nodes given for its ends, and its starting total
pub record Piece : Type 0 where
  pub from : ℕ
  pub to : ℕ
  pub left : End
  pub right : End
  pub start : Float

-- a sheet's part of the knots or of the averages; a cut knot is in both of its sheets
abbrev pub part : {A : Type 0} → Piece → List A → List A
part p xs = take (p.to + 1 - p.from) (drop p.from xs)

-- the whole's frame: both ends free, the total from 0
abbrev pub whole : ConvexMonotone → Frame
whole method = sheet_frame method None None zero

-- what a sheet answers of a whole whose tail is t: the total after its last period, and the tail if it is the last sheet
abbrev pub answer_of : End → Float → Tail → SheetEnd
answer_of None total t = record { total = total; tail = t }
answer_of (Some g) total t = record { total = total; tail = no_tail }

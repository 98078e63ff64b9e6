-- 01, Sheets; Refusal numbers: sheet. What comes back of a sheet, and what every lent slice holds afterwards, over what `sheet` does.
use Rattle.table.specs.Table.{End}
use Rattle.std.specs.Prelude.{ℕ, Bool, true, false, cond, List, ltb, Float, length, set, Err, None, Ok, Some}
use Rattle.refusal.specs.Refusal.{number}
use Rattle.refusal.specs.declared.Refusal.TheVariants.{BufferTooShort, SplitUnknown}
use Rattle.table.specs.Buffers.{Buffers, Outcome, buffers}
use Rattle.sheets.specs.Sheet.{sheet_in_numbers, SheetBuilt}

-- an end across the boundary: whether its node is given, and the node
abbrev pub end_of : Bool → Float → End
end_of false node = None
end_of true node = Some node

-- a refusal's number, or 0, and the lent slices as they are left
pub record SheetAcross : Type 0 where
  pub refusal : ℕ
  pub buffers : Buffers
  pub answer : List Float

abbrev pub across : ℕ → List Float → List ℕ → List Float → List Float → SheetAcross
across refusal nodes tags slots answer = record { refusal = refusal; buffers = buffers nodes tags slots; answer = answer }

-- with no room for a sheet's own numbers: the refusal that there is, and else 11, which comes last
abbrev pub short_refusal : SheetBuilt → ℕ
short_refusal (Ok s) = number BufferTooShort
short_refusal (Err r) = number r

-- what the answer's slice holds: the total and the tail from the start, or what it held
abbrev pub end_left : SheetBuilt → List Float → List Float
end_left (Ok s) old = set (set (set (set old 0 s.total) 1 s.tail.value) 2 s.tail.total) 3 s.tail.from
end_left (Err r) old = old

-- What a call answers and leaves across the boundary. A sheet's own numbers take four entries; with no room for them no slice changes.
abbrev pub sheet_across : Buffers → List Float → Outcome SheetBuilt → SheetAcross
sheet_across b answer o =
    cond (ltb (length answer) 4)
    (record { refusal = short_refusal o.answer; buffers = b; answer = answer })
    (record { refusal = (sheet_in_numbers o.answer).refusal; buffers = o.buffers; answer = end_left o.answer answer })

-- A mode that is not known is refused first, by a number of our own, and no slice changes.
abbrev pub in_mode_sheet : Bool → Buffers → List Float → Outcome SheetBuilt → SheetAcross
in_mode_sheet is_unknown b answer o = cond is_unknown (record { refusal = number SplitUnknown; buffers = b; answer = answer }) (sheet_across b answer o)

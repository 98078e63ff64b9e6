-- 01, Sheets; Refusal numbers: sheet. What `sheet` answers and leaves in the buffers of the whole.
use Rattle.table.specs.Table.{End}
use Rattle.std.specs.Prelude.{ℕ, ◌-◌, ◌*◌, Bool, true, false, List, [], ◌∷◌, ◌++◌, Float, length, Result, Ok, Err, Some, None}
use Rattle.numbers.specs.Words.{zero}
use Rattle.refusal.specs.Refusal.{Test, first, number, ◌⇒◌, Verdict}
use Rattle.numbers.specs.Sizes.{slot_count}
use Rattle.refusal.specs.declared.Refusal.{Refusal}
use Rattle.refusal.specs.declared.Refusal.TheVariants.{NoGivenNode}
use Rattle.table.specs.Buffers.{Buffers, Outcome, judged}
use Rattle.table.specs.Check.{table_tests, sign_test, room_tests}
use Rattle.table.specs.declared.method.ConvexMonotone.{ConvexMonotone}
use Rattle.table.specs.declared.ends.Frame.{Frame}
use Rattle.assembly.specs.Sections.{tail_of}
use Rattle.assembly.specs.Making.{after}
use Rattle.assembly.specs.declared.sections.Tail.{Tail}
use Rattle.sheets.specs.declared.sheet.SheetEnd.{SheetEnd}
use Rattle.sheets.specs.declared.sheet.SheetInNumbers.{SheetInNumbers}

-- what a sheet answers
abbrev pub SheetBuilt : Type 0
SheetBuilt = Result SheetEnd Refusal

abbrev pub none_given : End → End → Bool
none_given None None = true
none_given None (Some g) = false
none_given (Some g) r = false

-- refused in the order 16, 1 to 7, 29, 10, 11: room is what the buffers have from the sheet's place on
abbrev pub numbers_tests : List Float → List Float → ConvexMonotone → End → End → List Test
numbers_tests x y method l r = (none_given l r ⇒ NoGivenNode) ∷ (table_tests x y method ++ (sign_test y method ∷ []))

abbrev pub sheet_tests : List Float → List Float → ConvexMonotone → End → End → ℕ → ℕ → ℕ → ℕ → List Test
sheet_tests x y method l r place nodes tags slots = numbers_tests x y method l r ++ room_tests (length x) (nodes - place) (tags - place) (slots - slot_count * place)

abbrev pub sheet_verdict : List Float → List Float → ConvexMonotone → End → End → ℕ → Buffers → Verdict
sheet_verdict x y method l r place b = first (sheet_tests x y method l r place (length b.nodes) (length b.tags) (length b.slots))

-- a sheet has no held period and no seam
abbrev pub sheet_frame : ConvexMonotone → End → End → Float → Frame
sheet_frame method l r start = record { method = method; hold = false; seam = None; left = l; right = r; start = start }

abbrev pub no_tail : Tail
no_tail = record { value = zero; total = zero; from = zero }

-- the total after the last section, and the tail unless a right node is given
abbrev pub end_of : End → Tail → SheetEnd
end_of None t = record { total = t.total; tail = t }
end_of (Some g) t = record { total = t.total; tail = no_tail }

-- what `sheet` answers, and the buffers as it leaves them
abbrev pub sheet_outcome : List Float → List Float → ConvexMonotone → End → End → Float → ℕ → Buffers → Outcome SheetBuilt
sheet_outcome x y method l r start place b =
    let frame = sheet_frame method l r start in
    judged (sheet_verdict x y method l r place b) Err b (record { answer = Ok (end_of r (tail_of x y frame)); buffers = after place x y frame b })

-- in the documents' numbers: the refusal's, or 0, with the total and the tail
abbrev pub sheet_in_numbers : SheetBuilt → SheetInNumbers
sheet_in_numbers (Ok s) = record { refusal = 0; total = s.total; tail = s.tail }
sheet_in_numbers (Err r) = record { refusal = number r; total = zero; tail = no_tail }

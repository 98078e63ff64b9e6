-- A whole table built in sheets: it answers and leaves what the build does.
use Rattle.curve.specs.Curve.{Built}
use Rattle.std.specs.Prelude.{ℕ, false, cond, List, Float, length, Err, None}
use Rattle.refusal.specs.declared.Refusal.TheVariants.{CutsNotInner}
use Rattle.table.specs.Buffers.{Buffers, Outcome}
use Rattle.table.specs.declared.method.ConvexMonotone.{ConvexMonotone}
use Rattle.curve.specs.Build.{build_outcome}
use Rattle.sheets.specs.Cuts.{cuts_fit}

-- what `build_in_sheets` answers, and the buffers as it leaves them: as the build does, unless the cuts are refused
abbrev pub in_sheets_outcome : List Float → List Float → ConvexMonotone → List ℕ → Buffers → Outcome Built
in_sheets_outcome x y method cuts b =
    cond (cuts_fit cuts (length x)) (build_outcome x y method false None b) (record { answer = Err CutsNotInner; buffers = b })

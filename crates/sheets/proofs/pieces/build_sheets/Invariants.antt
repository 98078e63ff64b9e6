-- The invariant: the first j sheets are built.
use Prim.Native.Nat.{◌^◌, ◌≤◌, ◌<◌}
use mathlib.Core.Path.{◌≡◌}
use lib.ListN.{length}
use Rattle.table.specs.Buffers.{buffers}
use Rattle.sheets.proofs.InOrder.{Progress}
use Rattle.sheets.proofs.pieces.build_sheets.Given as goal

abbrev pub invariant-loop-to : goal.invariant-loop-to
invariant-loop-to l =
    (l.to-index ≤ l.to-index-end) × (l.to-index-end ≡ length l.cuts) × Progress l.xs l.ys l.method l.cuts (buffers l.initial.nodes l.initial.tags l.initial.slots) (buffers l.nodes l.tags l.slots) l.from l.total l.to-index × (l.to-index-end < 2 ^ 64)

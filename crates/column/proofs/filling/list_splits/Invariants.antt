-- The invariant: the list has the split sections below i.
use Prim.Native.Nat.{◌+◌, ◌-◌, ◌≤◌}
use mathlib.Core.Path.{◌≡◌}
use lib.ListN.{length}
use Rattle.column.specs.Steps.{Listed}
use Rattle.column.proofs.filling.list_splits.Given as goal

abbrev pub invariant-loop-i : goal.invariant-loop-i
invariant-loop-i l =
    (l.from ≤ l.i) × (l.i ≤ l.to) × (l.to ≤ l.from + 64) × (l.to ≤ length l.tags) × (l.to ≤ 4096) × (length l.places ≡ 64) × Listed l.tags l.from l.i l.places l.count

abbrev pub decreases-loop-i : goal.decreases-loop-i
decreases-loop-i l = l.to - l.i

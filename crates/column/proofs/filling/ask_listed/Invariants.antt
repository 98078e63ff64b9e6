-- The invariant: the first k of the list were asked, where they are unusual.
use Prim.Native.Nat.{ℕ, ◌-◌, ◌≤◌, ◌<◌}
use mathlib.Core.Path.{◌≡◌}
use lib.ListN.{length, get_or}
use Rattle.column.specs.Steps.{Within, Asked}
use Rattle.column.proofs.filling.ask_listed.Given as goal

abbrev pub invariant-loop-k : goal.invariant-loop-k
invariant-loop-k l =
    (l.k ≤ l.count) × (l.count ≤ 64) × (length l.column ≡ length l.initial.column) × ((j : ℕ) → j < l.count → Within (length l.xs) (length l.tags) (length l.slots) (length l.initial.column) (get_or l.places j 0))
    × Asked l.xs l.tags l.slots l.places l.k l.initial.column l.column

abbrev pub decreases-loop-k : goal.decreases-loop-k
decreases-loop-k l = l.count - l.k

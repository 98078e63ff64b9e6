-- The invariant: the entries below i are written, and the total is the one before section i.
use Prim.Native.Nat.{◌+◌, ◌-◌, ◌*◌, ◌≤◌}
use mathlib.Core.Path.{◌≡◌}
use lib.ListN.{length}
use Rattle.numbers.specs.Overlay.{overlay}
use Rattle.numbers.specs.Sizes.{slot_count}
use Rattle.column.specs.Steps.{total_before, start_by}
use Rattle.column.proofs.filling.fill_starts.Given as goal

abbrev pub invariant-loop-i : goal.invariant-loop-i
invariant-loop-i l =
    (l.from ≤ l.i) × (l.i ≤ l.to) × (slot_count * l.to ≤ length l.slots) × (l.to ≤ length l.initial.column) × (l.to ≤ 4096)
    × (length l.column ≡ length l.initial.column) × (l.total ≡ total_before l.slots l.i) × (l.column ≡ overlay l.from (l.i - l.from) (λ k. start_by l.mixing l.slots (l.from + k)) l.initial.column)

abbrev pub decreases-loop-i : goal.decreases-loop-i
decreases-loop-i l = l.to - l.i

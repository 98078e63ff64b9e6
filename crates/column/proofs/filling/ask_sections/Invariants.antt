-- The invariant: the entries below i are written.
use Prim.Native.Nat.{◌-◌, ◌*◌, ◌≤◌}
use mathlib.Core.Path.{◌≡◌}
use lib.ListN.{length}
use Rattle.numbers.specs.Overlay.{overlay}
use Rattle.numbers.specs.Sizes.{slot_count}
use Rattle.column.specs.Steps.{number_at}
use Rattle.column.proofs.filling.ask_sections.Given as goal

abbrev pub invariant-loop-i : goal.invariant-loop-i
invariant-loop-i l =
    (l.i ≤ l.sections) × (l.sections ≤ length l.xs) × (l.sections ≤ length l.tags) × (slot_count * l.sections ≤ length l.slots) × (l.sections ≤ length l.initial.column) × (l.sections ≤ 4096)
    × (length l.column ≡ length l.initial.column) × (l.column ≡ overlay 0 l.i (number_at l.xs l.tags l.slots) l.initial.column)

abbrev pub decreases-loop-i : goal.decreases-loop-i
decreases-loop-i l = l.sections - l.i

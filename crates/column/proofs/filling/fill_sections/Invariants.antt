-- The invariant: the entries from `to` on are written.
use Prim.Native.Nat.{◌+◌, ◌-◌, ◌*◌, ◌≤◌}
use mathlib.Core.Path.{◌≡◌}
use lib.ListN.{length}
use Rattle.numbers.specs.Overlay.{overlay}
use Rattle.numbers.specs.Sizes.{slot_count}
use Rattle.column.specs.Steps.{entry_by}
use Rattle.column.proofs.filling.fill_sections.Given as goal

abbrev pub invariant-loop-to : goal.invariant-loop-to
invariant-loop-to l =
    (l.to ≤ l.sections) × (l.sections ≤ length l.xs) × (l.sections ≤ length l.tags) × (slot_count * l.sections ≤ length l.slots) × (l.sections ≤ length l.initial.column) × (l.sections ≤ 4096)
    × (length l.column ≡ length l.initial.column) × (l.column ≡ overlay l.to (l.sections - l.to) (λ k. entry_by l.mixing l.positive l.xs l.tags l.slots (l.to + k)) l.initial.column)

abbrev pub decreases-loop-to : goal.decreases-loop-to
decreases-loop-to l = l.to

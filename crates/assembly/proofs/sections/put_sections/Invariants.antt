-- The invariant: the first i records are written, the total is that of the first i periods, and the one before it
-- that of the first i - 1.
use Prim.Native.Nat.{ℕ, ◌+◌, ◌-◌, ◌*◌, ◌≤◌, ◌<◌}
use mathlib.Core.Path.{◌≡◌}
use lib.ListN.{length}
use Rattle.numbers.specs.Sizes.{slot_count}
use Rattle.numbers.specs.Overlay.{overlay}
use Rattle.table.specs.Table.{at, node_at, total_at}
use Rattle.assembly.specs.Sections.{tag_at, slot_at}
use Rattle.assembly.proofs.sections.put_sections.Given as goal

abbrev pub invariant-loop-i : goal.invariant-loop-i
invariant-loop-i l =
    (l.i ≤ l.count) × (l.count + 1 ≡ length l.xs) × (2 ≤ length l.xs) × (length l.xs ≡ length l.ys) × (length l.xs ≤ length l.nodes) × (length l.xs ≤ 4096) × (length l.xs - 1 ≤ length l.initial.tags)
    × (slot_count * (length l.xs - 1) ≤ length l.initial.slots) × (length l.tags ≡ length l.initial.tags) × (length l.slots ≡ length l.initial.slots)
    × ((k : ℕ) → k < length l.xs → at l.nodes k ≡ node_at l.xs l.ys l.frame k) × (l.total ≡ total_at l.xs l.ys l.frame l.i) × (l.before ≡ total_at l.xs l.ys l.frame (l.i - 1))
    × (l.tags ≡ overlay 0 l.i (tag_at l.xs l.ys l.frame) l.initial.tags) × (l.slots ≡ overlay 0 (slot_count * l.i) (slot_at l.xs l.ys l.frame) l.initial.slots)

abbrev pub decreases-loop-i : goal.decreases-loop-i
decreases-loop-i l = l.count - l.i

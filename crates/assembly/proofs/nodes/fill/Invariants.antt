-- The invariant: the first k nodes between the ends are written.
use Prim.Native.Nat.{◌+◌, ◌-◌, ◌≤◌}
use mathlib.Core.Path.{◌≡◌}
use lib.ListN.{length}
use Rattle.numbers.specs.Overlay.{overlay}
use Rattle.table.specs.Table.{node_at}
use Rattle.assembly.proofs.nodes.fill.Given as goal

abbrev pub invariant-loop-k : goal.invariant-loop-k
invariant-loop-k l =
    (l.k ≤ l.count) × (l.last + 1 ≡ length l.xs) × (l.count + 1 ≡ l.last) × (length l.xs ≡ length l.ys) × (length l.xs ≤ 4096) × (length l.xs ≤ length l.initial.nodes) × (length l.nodes ≡ length l.initial.nodes)
    × (l.nodes ≡ overlay 1 l.k (λ j. node_at l.xs l.ys l.frame (1 + j)) l.initial.nodes)

abbrev pub decreases-loop-k : goal.decreases-loop-k
decreases-loop-k l = l.count - l.k

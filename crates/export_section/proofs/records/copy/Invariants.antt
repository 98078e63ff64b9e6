-- The invariant: the first k entries are written.
use Prim.Native.Nat.{◌-◌, ◌≤◌}
use mathlib.Core.Path.{◌≡◌}
use lib.Ieee.{nan}
use lib.ListN.{length, get_or}
use Rattle.numbers.specs.Overlay.{overlay}
use Rattle.export_section.proofs.records.copy.Given as goal

abbrev pub invariant-loop-k : goal.invariant-loop-k
invariant-loop-k l =
    (l.k ≤ l.count) × (l.count ≤ length l.from) × (l.count ≤ length l.initial.to) × (length l.to ≡ length l.initial.to) × (l.to ≡ overlay 0 l.k (λ j. get_or l.from j nan) l.initial.to)

abbrev pub decreases-loop-k : goal.decreases-loop-k
decreases-loop-k l = l.count - l.k

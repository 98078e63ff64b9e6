-- The invariant: the first k prices are written, the place is one that has a record, and from the second strip on the
-- total up to the end of the one before it is at hand.
use Prim.Native.Nat.{◌+◌, ◌-◌, ◌≤◌, ◌<◌}
use mathlib.Core.Path.{◌≡◌}
use lib.ListN.{length}
use Rattle.numbers.specs.Overlay.{overlay}
use Rattle.section.specs.Section.{primitive}
use Rattle.table.specs.Table.{at}
use Rattle.query.specs.Many.{formula_at}
use Rattle.query.specs.Query.{number_in}
use Rattle.query.specs.Strip.{strip_at}
use Rattle.query.proofs.strips.fill.Given as goal

abbrev pub invariant-loop-k : goal.invariant-loop-k
invariant-loop-k l =
    (l.k ≤ l.k-end) × (l.k-end ≡ length l.starts) × (l.place + 1 < length l.xs) × (length l.out ≡ length l.initial.out)
    × (l.out ≡ overlay 0 l.k (λ j. number_in (strip_at l.xs l.curve l.tags l.slots (at l.starts j) (at l.ends j))) l.initial.out)
    × (0 < l.k → l.before ≡ formula_at primitive l.xs l.curve l.tags l.slots (at l.ends (l.k - 1)))

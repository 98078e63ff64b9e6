-- The invariant: no strip passed is refused, the place is one that has a record, and from the second strip on what
-- was asked at the end of the one before it is at hand.
use Rattle.std.specs.Prelude.{Ok}
use Prim.Native.Nat.{◌+◌, ◌-◌, ◌≤◌, ◌<◌}
use mathlib.Core.Path.{◌≡◌}
use lib.ListN.{length}
use Rattle.table.specs.Table.{at}
use Rattle.query.specs.Query.{verdict_in}
use Rattle.query.specs.Many.{first_refused}
use Rattle.query.specs.Strip.{total_to, strip_at}
use Rattle.query.proofs.strips.each_verdict.Given as goal

abbrev pub invariant-loop-k : goal.invariant-loop-k
invariant-loop-k l =
    (l.k ≤ l.k-end) × (l.k-end ≡ length l.starts) × (l.place + 1 < length l.xs)
    × (first_refused l.k (λ j. verdict_in (strip_at l.xs l.curve l.tags l.slots (at l.starts j) (at l.ends j))) ≡ Ok tt)
    × (0 < l.k → l.before ≡ total_to l.xs l.curve l.tags l.slots (at l.ends (l.k - 1)))

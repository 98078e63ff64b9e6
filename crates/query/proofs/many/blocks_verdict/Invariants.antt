-- The invariant: no query of the blocks passed is refused.
use Rattle.std.specs.Prelude.{Ok}
use Prim.Native.Nat.{◌-◌, ◌≤◌}
use mathlib.Core.Path.{◌≡◌}
use lib.ListN.{length}
use Rattle.table.specs.Table.{at}
use Rattle.query.specs.Query.{verdict_in}
use Rattle.query.specs.Many.{first_refused, ask_at}
use Rattle.query.specs.Steps.{figure}
use Rattle.query.proofs.many.blocks_verdict.Given as goal

abbrev pub invariant-loop-from : goal.invariant-loop-from
invariant-loop-from l =
    (l.from ≤ length l.qs) × (length l.room ≡ 64) × (first_refused l.from (λ k. verdict_in (ask_at (figure l.wanted) l.xs l.curve l.tags l.slots (at l.qs k))) ≡ Ok tt)

abbrev pub decreases-loop-from : goal.decreases-loop-from
decreases-loop-from l = length l.qs - l.from

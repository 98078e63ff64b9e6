-- The count is that of the numbers passed.
use Prim.Native.Nat.{◌≤◌}
use mathlib.Core.Path.{◌≡◌}
use lib.ListN.{length}
use Rattle.numbers.specs.Words.{finite}
use Rattle.table.specs.Table.{at}
use Rattle.table.proofs.Counts.{count_below}
use Rattle.table.proofs.check.all_finite.Given as goal

abbrev pub invariant-loop-x : goal.invariant-loop-x
invariant-loop-x l = (l.x-index ≤ l.x-index-end) × (l.x-index-end ≡ length l.xs) × (l.finite ≡ count_below l.x-index (λ k. finite (at l.xs k)))

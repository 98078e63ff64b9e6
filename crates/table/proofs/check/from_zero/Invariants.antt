-- The count is that of the averages passed.
use Prim.Native.Nat.{◌+◌, ◌-◌, ◌≤◌}
use mathlib.Core.Path.{◌≡◌}
use lib.Ieee.{le}
use lib.ListN.{length}
use Rattle.numbers.specs.Words.{zero}
use Rattle.table.specs.Table.{at}
use Rattle.table.proofs.Counts.{count_below}
use Rattle.table.proofs.check.from_zero.Given as goal

abbrev pub invariant-loop-y : goal.invariant-loop-y
invariant-loop-y l = (l.y-index ≤ length l.read) × (length l.read ≡ length l.ys - 1) × (l.counted ≡ count_below l.y-index (λ k. le zero (at l.ys (k + 1))))

-- The counts are those of the knots passed, and the last of these is carried.
use Prim.Native.Nat.{◌+◌, ◌≤◌}
use mathlib.Core.Path.{◌≡◌}
use lib.Ieee.{lt}
use lib.ListN.{length}
use Rattle.numbers.specs.Words.{finite}
use Rattle.table.specs.Table.{at}
use Rattle.table.proofs.Counts.{count_below}
use Rattle.table.proofs.check.knots_of.Given as goal

abbrev pub invariant-loop-x : goal.invariant-loop-x
invariant-loop-x l =
    (l.x-index ≤ length l.rest)
    × (length l.rest + 1 ≡ length l.xs)
    × (l.before ≡ at l.xs l.x-index)
    × (l.finite ≡ count_below (l.x-index + 1) (λ k. finite (at l.xs k)))
    × (l.rising ≡ count_below l.x-index (λ k. lt (at l.xs k) (at l.xs (k + 1))))

-- The invariant: the flags are those of the test of the first k even periods, and of the first k odd ones.
use Prim.Native.Nat.{◌+◌, ◌*◌, ◌≤◌}
use mathlib.Core.Path.{◌≡◌}
use lib.ListN.{length}
use Rattle.numbers.specs.Every.{all_below}
use Rattle.assembly.specs.Starts.{period_modest}
use Rattle.column.proofs.Flags.{flag}
use Rattle.column.proofs.filling.are_modest_periods.Given as goal

abbrev pub invariant-loop-k : goal.invariant-loop-k
invariant-loop-k l =
    (l.periods + 1 ≤ length l.xs)
    × (l.periods + 1 ≤ length l.ys)
    × (l.periods ≤ 4096)
    × (l.even ≡ flag (all_below l.k (λ j. period_modest l.xs l.ys (2 * j))))
    × (l.odd ≡ flag (all_below l.k (λ j. period_modest l.xs l.ys (2 * j + 1))))

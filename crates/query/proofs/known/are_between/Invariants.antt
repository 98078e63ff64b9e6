-- The invariant: what was found of the numbers passed.
use Prim.Native.Nat.{◌≤◌}
use mathlib.Core.Path.{◌≡◌}
use lib.ListN.{length}
use Rattle.numbers.specs.Every.{all_below}
use Rattle.table.specs.Table.{at}
use Rattle.query.specs.Steps.{between}
use Rattle.query.proofs.known.are_between.Given as goal

abbrev pub invariant-loop-i : goal.invariant-loop-i
invariant-loop-i l = (l.i ≤ l.i-end) × (l.i-end ≡ length l.qs) × (l.all ≡ all_below l.i (λ k. between l.low l.high (at l.qs k)))

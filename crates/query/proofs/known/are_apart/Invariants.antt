-- The invariant: what was found of the pairs passed.
use Prim.Native.Nat.{◌≤◌}
use mathlib.Core.Path.{◌≡◌}
use lib.ListN.{length}
use Rattle.numbers.specs.Every.{all_below}
use Rattle.table.specs.Table.{at}
use Rattle.query.specs.Steps.{apart}
use Rattle.query.proofs.known.are_apart.Given as goal

abbrev pub invariant-loop-k : goal.invariant-loop-k
invariant-loop-k l = (l.k ≤ l.k-end) × (l.k-end ≡ length l.starts) × (l.all ≡ all_below l.k (λ j. apart (at l.starts j) (at l.ends j)))

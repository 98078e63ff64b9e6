-- The invariant: the first i queries are not refused, their answers are written, and the place is one that has a record.
use Rattle.std.specs.Prelude.{Ok}
use Prim.Native.Nat.{◌+◌, ◌≤◌, ◌<◌}
use mathlib.Core.Path.{◌≡◌}
use lib.ListN.{length}
use Rattle.numbers.specs.Overlay.{overlay}
use Rattle.table.specs.Table.{at}
use Rattle.query.specs.Query.{verdict_in}
use Rattle.query.specs.Many.{first_refused, ask_at, formula_at}
use Rattle.query.specs.Steps.{figure}
use Rattle.query.proofs.many.fill.Given as goal

abbrev pub invariant-loop-i : goal.invariant-loop-i
invariant-loop-i l =
    (l.i ≤ l.i-end) × (l.i-end ≡ length l.qs) × (l.place + 1 < length l.xs) × (length l.out ≡ length l.initial.out)
    × (first_refused l.i (λ k. verdict_in (ask_at (figure l.wanted) l.xs l.curve l.tags l.slots (at l.qs k))) ≡ Ok tt)
    × (l.out ≡ overlay 0 l.i (λ k. formula_at (figure l.wanted) l.xs l.curve l.tags l.slots (at l.qs k)) l.initial.out)

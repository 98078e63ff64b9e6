-- The invariant: the knots below i are written.
use Prim.Native.Nat.{◌-◌, ◌≤◌}
use mathlib.Core.Path.{◌≡◌}
use lib.ListN.{length}
use Rattle.numbers.specs.Overlay.{overlay}
use Rattle.months.specs.Calendar.{month_starts}
use Rattle.months.specs.Knots.{knot_at}
use Rattle.months.specs.Steps.{InCalendar}
use Rattle.months.specs.declared.periods.Periods.{Periods}
use Rattle.months.proofs.knots.fill.Given as goal

abbrev pub invariant-loop-i : goal.invariant-loop-i
invariant-loop-i l =
    let p : Periods = record { first = l.first; months = l.months; knots = l.count } in
    (l.i ≤ l.count) × InCalendar p × (l.count ≤ length l.initial.knots) × (length l.knots ≡ length l.initial.knots) × (l.knots ≡ overlay 0 l.i (knot_at p) l.initial.knots) × (l.starts ≡ month_starts)

abbrev pub decreases-loop-i : goal.decreases-loop-i
decreases-loop-i l = l.count - l.i

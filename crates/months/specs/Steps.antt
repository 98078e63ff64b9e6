-- What steps inside the crate are given.
use Rattle.std.specs.Prelude.{ℕ, ◌+◌, ◌-◌, ◌*◌, ◌≤◌, ◌<◌, ◌≡◌}
use Rattle.table.specs.Sound.{Room}
use Rattle.months.specs.declared.periods.Periods.{Periods}

-- periods that the calendar has
abbrev pub InCalendar : Periods → Type 0
InCalendar p = (0 < p.months) × (2 ≤ p.knots) × (p.first + (p.knots - 1) * p.months ≤ 1200)

-- and whose curve has room: as many averages as knots, and lent slices that are long enough
abbrev pub Ready : Periods → ℕ → ℕ → ℕ → ℕ → ℕ → Type 0
Ready p averages knots nodes tags slots = InCalendar p × (p.knots ≡ averages) × (p.knots ≤ knots) × Room p.knots nodes tags slots

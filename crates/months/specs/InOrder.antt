-- 02, K2: what holds of the knots that `month_knots` leaves, over its contract.
use Rattle.std.specs.Prelude.{ℕ, ◌+◌, ◌-◌, ◌*◌, ◌≤◌, ◌<◌, Bool, true, false, ◌||◌, List, ◌≡◌, eqb, Float, ℤ, length, take}
use Rattle.std.specs.Float.Ieee.Exact.{HasValue}
use Rattle.refusal.specs.Refusal.{number}
use Rattle.refusal.specs.declared.Refusal.{Refusal}
use Rattle.table.specs.Check.{all_finite, rising}
use Rattle.table.specs.Table.{at}
use Rattle.months.specs.Calendar.{start_at}
use Rattle.months.specs.Periods.{months_in, place_of}
use Rattle.months.specs.declared.periods.Size.{Size}

-- A table's knots as a build wants them.
pub record GoodKnots (x : List Float) : Type 0 where
  pub low : 2 ≤ length x
  pub high : length x ≤ 4096
  pub finite : all_finite x ≡ true
  pub rise : rising x ≡ true

-- n knots in a slice that was lent as old and is left as new
pub record InOrder (from to : ℤ) (size : Size) (old new : List Float) (n : ℕ) : Type 0 where
  -- knot i is, exactly, the day on which the month i periods after the first starts
  pub each : (i : ℕ) → i < n → HasValue (at new i) false (start_at (place_of from + i * months_in size)) 1
  -- the last is that of the month after the last: so many periods there are
  pub last : place_of from + (n - 1) * months_in size ≡ place_of to + 1
  -- a build can take them
  pub good : GoodKnots (take n new)
  -- nothing else has changed
  pub beyond : (i : ℕ) → n ≤ i → at new i ≡ at old i
  pub same : length new ≡ length old

-- the refusals of a build that are about its knots and how many there are: 4, 5, 7 and 10
abbrev pub of_knots : Refusal → Bool
of_knots r = eqb (number r) 4 || (eqb (number r) 5 || (eqb (number r) 7 || eqb (number r) 10))

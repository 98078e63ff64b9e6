-- 02, K2: whole periods of the calendar, from a first to a last month, which belongs to them. Refusal 19.
use Rattle.std.specs.Prelude.{ℕ, ◌+◌, ◌-◌, ◌/◌, Bool, not, ◌&&◌, cond, ltb, leb, ℤ, pos, negsuc, Result, Ok, Err}
use Rattle.numbers.specs.OneOutcome.{pair}
use Rattle.refusal.specs.Refusal.{Test, ◌⇒◌, number}
use Rattle.refusal.specs.declared.Refusal.{Refusal}
use Rattle.refusal.specs.declared.Refusal.TheVariants.{MonthsNotPeriods}
use Rattle.months.specs.Calendar.{divides}
use Rattle.months.specs.declared.periods.Size.{Size}
use Rattle.months.specs.declared.periods.Size.TheVariants.{Month, Quarter, Year}
use Rattle.months.specs.declared.periods.Periods.{Periods}

-- what an order by months asks for
abbrev pub Ordered : Type 0
Ordered = Result Periods Refusal

abbrev pub months_in : Size → ℕ
months_in Month = 1
months_in Quarter = 3
months_in Year = 12

-- A month's place in the calendar, whose last is December 2099, 1199. A month before or after it has the place 1200, which none in it has.
abbrev pub place_of : ℤ → ℕ
place_of (pos m) = cond (ltb m 1200) m 1200
place_of (negsuc m) = 1200

-- From month a to month b there are whole periods of n months, and the first starts where one can: a quarter in January, April, July or October, a
-- year in January.
abbrev pub are_periods : ℕ → ℕ → ℕ → Bool
are_periods a b n = ltb b 1200 && (leb a b && (divides n a && divides n (b + 1 - a)))

abbrev pub periods_from : ℕ → ℕ → ℕ → Periods
periods_from a b n = record { first = a; months = n; knots = (b + 1 - a) / n + 1 }

module _ (first last : ℤ) (size : Size) where
  -- 19
  abbrev pub months_test : Test
  months_test = not (are_periods (place_of first) (place_of last) (months_in size)) ⇒ MonthsNotPeriods

  abbrev pub periods_asked : Periods
  periods_asked = periods_from (place_of first) (place_of last) (months_in size)

  abbrev pub periods_of : Ordered
  periods_of = cond (are_periods (place_of first) (place_of last) (months_in size)) (Ok periods_asked) (Err MonthsNotPeriods)

-- in the documents' numbers: the refusal's, or 0, with the periods; refused ones have 0 in all three places
abbrev pub ordered_in_numbers : Ordered → ℕ × Periods
ordered_in_numbers (Ok p) = pair 0 p
ordered_in_numbers (Err r) = pair (number r) (record { first = 0; months = 0; knots = 0 })

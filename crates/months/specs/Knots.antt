-- 02, K2: the knots of periods, and what `month_knots` answers and leaves.
use Rattle.std.specs.Prelude.{ℕ, ◌+◌, ◌*◌, List, [], ◌∷◌, ltb, Float, ℤ, pos, length, Result, Ok, Err}
use Rattle.std.specs.Float.{binary64}
use Rattle.std.specs.Float.Ieee.{of_int}
use Rattle.numbers.specs.OneOutcome.{pair}
use Rattle.numbers.specs.Overlay.{overlay}
use Rattle.refusal.specs.Refusal.{Test, ◌⇒◌, first, number, Verdict}
use Rattle.refusal.specs.declared.Refusal.{Refusal}
use Rattle.refusal.specs.declared.Refusal.TheVariants.{BufferTooShort}
use Rattle.months.specs.Calendar.{start_at, listed}
use Rattle.months.specs.Periods.{months_test, periods_asked}
use Rattle.months.specs.declared.periods.Size.{Size}
use Rattle.months.specs.declared.periods.Periods.{Periods}

-- what is answered to an order of knots: how many there are
abbrev pub MonthKnots : Type 0
MonthKnots = Result ℕ Refusal

-- a whole number of days as a float
abbrev pub days : ℕ → Float
days n = of_int binary64 (pos n)

-- knot i of the periods: the day on which period i starts; the last knot is the day after the last period
abbrev pub knot_at : Periods → ℕ → Float
knot_at p i = days (start_at (p.first + i * p.months))

abbrev pub month_knots : Periods → List Float
month_knots p = listed (knot_at p) 0 p.knots

-- 11, for a slice of so many entries
abbrev pub room_test : Periods → ℕ → Test
room_test p room = ltb room p.knots ⇒ BufferTooShort

abbrev pub knots_by : Verdict → Periods → List Float → MonthKnots × List Float
knots_by (Ok tt) p old = pair (Ok p.knots) (overlay 0 p.knots (knot_at p) old)
knots_by (Err r) p old = pair (Err r) old

-- refused in the order 19, 11; an accepted order's knots stand from the start of the slice, and entries beyond them stay
abbrev pub knots_made : ℤ → ℤ → Size → List Float → MonthKnots × List Float
knots_made from to size old =
    let p = periods_asked from to size in
    knots_by (first (months_test from to size ∷ room_test p (length old) ∷ [])) p old

-- in the documents' numbers: the refusal's, or 0, with how many knots there are
abbrev pub knots_in_numbers : MonthKnots → ℕ × ℕ
knots_in_numbers (Ok n) = pair 0 n
knots_in_numbers (Err r) = pair (number r) 0

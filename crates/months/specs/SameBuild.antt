-- 02, K2: a build by months beside `build`, over the contracts of both.
use Rattle.std.specs.Prelude.{◌≤◌, Bool, true, false, List, ◌≡◌, Float, ℤ, length, Err, Ok, Option}
use Rattle.refusal.specs.declared.Refusal.{Refusal}
use Rattle.refusal.specs.declared.Refusal.TheVariants.{MonthsNotPeriods}
use Rattle.table.specs.Buffers.{Buffers}
use Rattle.table.specs.declared.method.ConvexMonotone.{ConvexMonotone}
use Rattle.table.specs.declared.ends.Seam.{Seam}
use Rattle.curve.specs.Build.{build_outcome}
use Rattle.curve.specs.declared.curve.Curve.{Curve}
use Rattle.months.specs.Building.{Monthly}
use Rattle.months.specs.InOrder.{InOrder, of_knots}
use Rattle.months.specs.Knots.{month_knots}
use Rattle.months.specs.Periods.{months_test, periods_asked}
use Rattle.months.specs.declared.periods.Size.{Size}

-- what is left of an order by months, for slices that were lent as these
pub record SameBuild (from to : ℤ) (size : Size) (y : List Float) (method : ConvexMonotone) (hold : Bool) (seam : Option Seam) (knots : List Float) (b : Buffers) (o : Monthly) : Type 0 where
  -- 19 comes before every refusal of a build
  pub nineteen : (months_test from to size).holds ≡ true → o.answer ≡ Err MonthsNotPeriods
  -- of whole periods, with room for their knots, it answers and leaves what `build` does of these, refusals included
  pub same : (months_test from to size).holds ≡ false → (periods_asked from to size).knots ≤ length knots →
      record { answer = o.answer; buffers = o.buffers } ≡ build_outcome (month_knots (periods_asked from to size)) y method hold seam b
  -- and these knots stand in their slice
  pub ordered : (c : Curve) → o.answer ≡ Ok c → InOrder from to size knots o.knots (periods_asked from to size).knots
  -- no refusal is about knots
  pub never : (e : Refusal) → o.answer ≡ Err e → of_knots e ≡ false

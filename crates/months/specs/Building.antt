-- 02, K2: a build by months. 19 comes first, then build's order over the knots of the periods.
use Rattle.curve.specs.Curve.{Built}
use Rattle.std.specs.Prelude.{ℕ, Bool, List, [], ◌∷◌, ◌++◌, Float, ℤ, length, Err, Ok, Option}
use Rattle.numbers.specs.Overlay.{overlay}
use Rattle.refusal.specs.Refusal.{Test, first, Verdict}
use Rattle.table.specs.Buffers.{Buffers, buffers}
use Rattle.table.specs.declared.method.ConvexMonotone.{ConvexMonotone}
use Rattle.table.specs.declared.ends.Seam.{Seam}
use Rattle.assembly.specs.Making.{after}
use Rattle.curve.specs.Build.{build_tests, whole_frame, curve_of}
use Rattle.months.specs.Knots.{knot_at, month_knots, room_test}
use Rattle.months.specs.Periods.{months_test, periods_asked}
use Rattle.months.specs.declared.periods.Size.{Size}
use Rattle.months.specs.declared.periods.Periods.{Periods}

-- build's tests, and 11 also for the slice of the knots
abbrev pub periods_tests : Periods → List Float → ConvexMonotone → Option Seam → ℕ → ℕ → ℕ → ℕ → List Test
periods_tests p y method seam knots nodes tags slots = build_tests (month_knots p) y method seam nodes tags slots ++ (room_test p knots ∷ [])

abbrev pub months_tests : ℤ → ℤ → Size → List Float → ConvexMonotone → Option Seam → ℕ → ℕ → ℕ → ℕ → List Test
months_tests from to size y method seam knots nodes tags slots =
    months_test from to size ∷ periods_tests (periods_asked from to size) y method seam knots nodes tags slots

abbrev pub months_verdict : ℤ → ℤ → Size → List Float → ConvexMonotone → Option Seam → ℕ → ℕ → ℕ → ℕ → Verdict
months_verdict from to size y method seam knots nodes tags slots = first (months_tests from to size y method seam knots nodes tags slots)

-- an answer, and the four lent slices as they are left
pub record Monthly : Type 0 where
  pub answer : Built
  pub knots : List Float
  pub buffers : Buffers

abbrev pub monthly : Built → List Float → List Float → List ℕ → List Float → Monthly
monthly answer knots nodes tags slots = record { answer = answer; knots = knots; buffers = buffers nodes tags slots }

-- what a build leaves of the periods' knots and these averages, with the knots from the start of their slice
abbrev pub monthly_built : Periods → List Float → ConvexMonotone → Bool → Option Seam → List Float → Buffers → Monthly
monthly_built p y method hold seam knots b =
    let x = month_knots p in
    let frame = whole_frame (length x) method hold seam in
    record { answer = curve_of x y frame hold; knots = overlay 0 p.knots (knot_at p) knots; buffers = after 0 x y frame b }

-- a refusal leaves all four slices as they were
abbrev pub monthly_by : Verdict → List Float → Buffers → Monthly → Monthly
monthly_by (Ok tt) knots b new = new
monthly_by (Err r) knots b new = record { answer = Err r; knots = knots; buffers = b }

abbrev pub monthly_outcome : ℤ → ℤ → Size → List Float → ConvexMonotone → Bool → Option Seam → List Float → Buffers → Monthly
monthly_outcome from to size y method hold seam knots b =
    monthly_by (months_verdict from to size y method seam (length knots) (length b.nodes) (length b.tags) (length b.slots)) knots b
    (monthly_built (periods_asked from to size) y method hold seam knots b)

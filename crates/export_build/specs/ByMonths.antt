-- 02, K2: months across the boundary, with the months of a period as a number. What comes back, and what every lent slice holds afterwards.
use Rattle.std.specs.Prelude.{ℕ, Bool, not, cond, ◌||◌, List, eqb, ltb, Float, ℤ, length, set, Err, Ok}
use Rattle.refusal.specs.Refusal.{number}
use Rattle.refusal.specs.declared.Refusal.TheVariants.{MonthsNotPeriods, BufferTooShort, SplitUnknown}
use Rattle.table.specs.Buffers.{Buffers, buffers}
use Rattle.curve.specs.Curve.{curve_in_numbers}
use Rattle.months.specs.Building.{Monthly}
use Rattle.months.specs.Knots.{knots_made, MonthKnots}
use Rattle.months.specs.Periods.{months_test}
use Rattle.months.specs.declared.periods.Size.{Size}
use Rattle.months.specs.declared.periods.Size.TheVariants as size
use Rattle.export_build.specs.Building.{no_answer, short_refusal, count_left, tail_left}

-- a period has 1, 3 or 12 months
abbrev pub no_size : ℕ → Bool
no_size months = not (eqb months 1 || (eqb months 3 || eqb months 12))

abbrev pub size_of : ℕ → Size
size_of months = cond (eqb months 1) size.Month (cond (eqb months 3) size.Quarter size.Year)

-- 19, which another number of months gets too
abbrev pub not_periods : ℤ → ℤ → ℕ → Bool
not_periods from to months = no_size months || (months_test from to (size_of months)).holds

-- a refusal's number, or 0, and the two lent slices as they are left
pub record KnotsAcross : Type 0 where
  pub refusal : ℕ
  pub knots : List Float
  pub count : List ℕ

abbrev pub knots_left : ℕ → List Float → List ℕ → KnotsAcross
knots_left refusal knots count = record { refusal = refusal; knots = knots; count = count }

-- how many knots there are takes one entry; with no room for it no slice changes
module _ (knots : List Float) (count : List ℕ) where
  abbrev pub knots_told : MonthKnots × List Float → KnotsAcross
  knots_told (Err r, new) = record { refusal = number r; knots = new; count = count }
  knots_told (Ok n, new) =
      cond (ltb (length count) 1)
      (record { refusal = number BufferTooShort; knots = knots; count = count })
      (record { refusal = 0; knots = new; count = set count 0 n })

abbrev pub knots_across : ℤ → ℤ → ℕ → List Float → List ℕ → KnotsAcross
knots_across from to months knots count =
    cond (no_size months) (record { refusal = number MonthsNotPeriods; knots = knots; count = count }) (knots_told knots count (knots_made from to (size_of months) knots))

-- a refusal's number, or 0, and the six lent slices as they are left
pub record MonthsAcross : Type 0 where
  pub refusal : ℕ
  pub knots : List Float
  pub buffers : Buffers
  pub sections : List ℕ
  pub tail : List Float

abbrev pub across_months : ℕ → List Float → List Float → List ℕ → List Float → List ℕ → List Float → MonthsAcross
across_months refusal knots nodes tags slots sections tail =
    record { refusal = refusal; knots = knots; buffers = buffers nodes tags slots; sections = sections; tail = tail }

-- 19 comes first, then 30, then build's order. With no room for a curve's own numbers 11 comes last, and no slice changes.
abbrev pub months_across : Bool → Bool → List Float → Buffers → List ℕ → List Float → Monthly → MonthsAcross
months_across no_periods is_unknown knots b sections tail o =
    let refused : ℕ → MonthsAcross = λ n. record { refusal = n; knots = knots; buffers = b; sections = sections; tail = tail } in
    cond no_periods (refused (number MonthsNotPeriods))
    (cond is_unknown (refused (number SplitUnknown))
    (cond (no_answer (length sections) (length tail)) (refused (short_refusal o.answer))
    (record { refusal = (curve_in_numbers o.answer).refusal; knots = o.knots; buffers = o.buffers; sections = count_left o.answer sections; tail = tail_left o.answer tail })))

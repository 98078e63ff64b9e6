-- Steps of the code, which only the contracts of private functions cite.
use Rattle.growth.specs.Growth.{Carried}
use Rattle.std.specs.Prelude.{ℕ, Bool, cond, ℤ, Err, Ok, Option}
use Rattle.refusal.specs.Refusal.{number, Verdict}
use Rattle.refusal.specs.declared.Refusal.{Refusal}
use Rattle.refusal.specs.declared.Refusal.TheVariants.{BufferTooShort, CutsNotInner, MonthsNotPeriods}
use Rattle.table.specs.declared.ends.Seam.{Seam}
use Rattle.months.specs.Periods.{months_test}
use Rattle.months.specs.declared.periods.Size.{Size}

-- what a check says where an answer's slice is too short: its own refusal, and else that one, which comes last
abbrev pub last_refusal : Verdict → ℕ
last_refusal (Ok tt) = number BufferTooShort
last_refusal (Err r) = number r

-- in sheets: the cuts are refused, or the table is, or that comes last
abbrev pub last_cut : Bool → Verdict → ℕ
last_cut fit v = cond fit (last_refusal v) (number CutsNotInner)

-- in growth: what is carried is refused, or the table is, or that comes last
abbrev pub last_growth : Carried → (Option Seam → Verdict) → ℕ
last_growth (Ok s) verdict = last_refusal (verdict s)
last_growth (Err r) verdict = number r

-- by months: 19, or another refusal that is sure
abbrev pub after_months : ℤ → ℤ → Size → Refusal → ℕ
after_months from to size other = cond (months_test from to size).holds (number MonthsNotPeriods) (number other)

-- 19 is handed on.
use Rattle.std.specs.Prelude.{ℤ, Err}
use mathlib.Core.List.{List}
use mathlib.Core.Path.{◌≡◌}
use lib.Ieee.{Float}
use Rattle.numbers.specs.OneOutcome.{pair}
use Rattle.refusal.specs.declared.Refusal.{Refusal}
use Rattle.refusal.proofs.First.{handed}
use Rattle.months.specs.Periods.{periods_of}
use Rattle.months.specs.Knots.{knots_made}
use Rattle.months.specs.declared.periods.Size.{Size}
use Rattle.months.proofs.Whole.{was_refused}
use Rattle.months.proofs.Whole.{known}
use Rattle.months.proofs.knots.month_knots.Goals as goal

none_made : (from to : ℤ) (size : Size) (old : List Float) (r : Refusal) → periods_of from to size ≡ Err r → pair (Err r) old ≡ knots_made from to size old
none_made from to size old r e = let (none, is) = was_refused from to size r e in rw (none, is)

pub returns-in_err-periods : goal.returns-in_err-periods
returns-in_err-periods c =
    let a = c.args in
    rw (handed _ c.from_residual.ensures.1)
    (none_made a.first a.last a.size a.knots.now _ (known a.first a.last a.size _ _ c.ranges.first c.ranges.last c.periods_of.ensures c.in_err-periods.was))

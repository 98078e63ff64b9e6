-- 19, or the verdict on the periods.
use mathlib.Core.Path.{◌∙◌}
use Rattle.refusal.proofs.First.{handed}
use Rattle.months.proofs.Asked.{of_periods, no_periods}
use Rattle.months.proofs.Whole.{known}
use Rattle.months.proofs.building.build_months_verdict.Goals as goal

pub returns : goal.returns
returns c =
    let a = c.args in
    of_periods a.first a.last a.size a.averages.now a.method a.seam a.knots a.nodes a.tags a.slots _ (known a.first a.last a.size _ _ c.ranges.first c.ranges.last c.periods_of.ensures c.in_ok-periods.was) _ c.periods_verdict.ensures

pub returns-in_err-periods : goal.returns-in_err-periods
returns-in_err-periods c =
    let a = c.args in
    handed _ c.from_residual.ensures.1
    ∙ no_periods a.first a.last a.size a.averages.now a.method a.seam a.knots a.nodes a.tags a.slots _ (known a.first a.last a.size _ _ c.ranges.first c.ranges.last c.periods_of.ensures c.in_err-periods.was)

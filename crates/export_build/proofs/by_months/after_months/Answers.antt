-- By the answer about the periods.
use Rattle.months.proofs.Whole.{known}
use Rattle.export_build.proofs.Monthly.{months_first}
use Rattle.export_build.proofs.by_months.after_months.Goals as goal

pub returns-in-Err : goal.returns-in-Err
returns-in-Err c =
    let a = c.args in
    months_first a.first a.last a.size a.other _ _
    (known a.first a.last a.size _ _ c.ranges.first c.ranges.last c.periods_of.ensures c.in-Err.is) c.number.ensures

-- The fields by `copy`, then the three numbers behind them.
use Rattle.assembly.proofs.Rows.{record_written}
use Rattle.assembly.proofs.sections.put.Goals as goal

pub returns-clause-slots : goal.returns-clause-slots
returns-clause-slots c =
    let a = c.args in
    let fields = rw c.slots_of.ensures at c.copy.ensures in
    rw c.knot_prices-prices.ensures (record_written a.section a.left a.right a.total _ _ _ fields)

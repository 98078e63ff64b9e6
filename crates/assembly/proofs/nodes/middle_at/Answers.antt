use Rattle.table.specs.Table.{middle_at}
use Rattle.assembly.proofs.nodes.middle_at.Goals as goal

pub returns : goal.returns
unfolding middle_at
returns c = rw c.inner.ensures at c.seamed.ensures

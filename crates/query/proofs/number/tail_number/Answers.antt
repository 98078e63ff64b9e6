-- A constant section answers what its numbers do.
use Rattle.section.specs.Section.{value, primitive}
use Rattle.query.proofs.number.tail_number.Goals as goal

pub returns-in-Total : goal.returns-in-Total
unfolding value primitive
returns-in-Total c = rw (c.in-Total.is, c.primitive.ensures, c.new-constant.ensures)

pub returns-in-Price : goal.returns-in-Price
unfolding value primitive
returns-in-Price c = rw (c.in-Price.is, c.value.ensures, c.new-constant.ensures)

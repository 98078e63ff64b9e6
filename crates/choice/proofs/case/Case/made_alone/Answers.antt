-- The kind that is asked for.
use Rattle.choice.specs.QuadraticPart.{made}
use Rattle.choice.proofs.case.Case.made_alone.Goals as goal

pub returns-then-min : goal.returns-then-min
unfolding made
returns-then-min c = rw (c.if-min.true, c.min_of.ensures)

pub returns : goal.returns
unfolding made
returns c = rw (c.if-min.false, c.plain_of.ensures)

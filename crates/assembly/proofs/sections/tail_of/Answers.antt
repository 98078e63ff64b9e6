-- The last record holds the price and the total at the last knot.
use Rattle.assembly.specs.Sections.{tail_of}
use Rattle.assembly.proofs.sections.tail_of.Goals as goal

pub returns-then-frame : goal.returns-then-frame
unfolding tail_of
returns-then-frame c = simp c.if-frame.true (rw c.requires.total_value)

pub returns : goal.returns
unfolding tail_of
returns c = simp c.if-frame.false (rw (c.requires.right_price_value, c.requires.total_after_value))

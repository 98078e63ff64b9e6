-- Ten bytes, one after the other.
use Rattle.numbers.specs.Overlay.{overlay}
use Rattle.order.proofs.text.put_build.Goals as goal

pub returns : goal.returns
unfolding overlay
returns c = rw (c.decimal.ensures, c.decimal-2.ensures, c.decimal-3.ensures, c.decimal-4.ensures, c.decimal-5.ensures, c.decimal-6.ensures)

-- Five bytes, one after the other.
use native.Mathlib.Nat.{add-zero}
use Rattle.numbers.specs.Overlay.{overlay}
use Rattle.order.proofs.text.put_start.Goals as goal

pub returns : goal.returns
unfolding overlay
returns c = rw (c.decimal.ensures, c.decimal-2.ensures, add-zero c.args.at)

-- `root::plain` meets its contract: the exponent's field says how many of the units' digits stand above the 53 that are kept.
use Prim.Native.Nat.{◌^◌}
use native.Mathlib.Omega.{arith}
use native.Mathlib.Nat.{mul-one}
use borrow.Author.Tests.{lt-ltb, le-ltb}
use Rattle.root.specs.Steps.{units_of_bits}
use Rattle.root.proofs.plain.Goals as goal

pub returns-then-field-eq0 : goal.returns-then-field-eq0
unfolding units_of_bits
returns-then-field-eq0 c = let b = c.args.bits in simp (lt-ltb b (2 ^ 52) (omega arith)) (rw (mul-one b) at c.root_of.ensures)

pub returns : goal.returns
unfolding units_of_bits
returns c = let b = c.args.bits in simp (le-ltb b (2 ^ 52) (omega arith)) c.root_of-2.ensures

-- `root::normalise` meets its contract: the shift brings q * 2 ^ k to size, and the exponent's half is the root's.
use native.Mathlib.Omega.{arith}
use lib.Count.{count_leading_zeros}
use Rattle.root.proofs.Scaling.{Placed, placed, exponent_is, significand_is}
use Rattle.root.proofs.normalise.Goals as goal

here : (c : goal.Start) → Placed c.args.q (count_leading_zeros 64 c.args.q)
here c = placed c.args.q c.requires.0 c.requires.1

pub overflow_sub-significand : goal.overflow_sub-significand
overflow_sub-significand c = let t = here c in omega arith

pub returns : goal.returns
returns c = (significand_is c.args.q c.args.k _ (here c) _ (let t = here c in omega arith), exponent_is c.args.q c.args.k _ (here c))

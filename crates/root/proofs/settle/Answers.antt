-- `root::settle` meets its contract: its numbers fit, and in the span that it looks at the answer is nearest.
use native.Mathlib.Omega.{arith}
use Rattle.root.proofs.Neighbours.{answer}
use Rattle.root.proofs.settle.Goals as goal

pub returns : goal.returns
returns c = answer c.args.s c.args.g c.requires.0 c.requires.1 c.requires.2 c.if-top-whole.false (omega arith)

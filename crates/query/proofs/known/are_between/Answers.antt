use native.Mathlib.Omega.{arith}
use mathlib.Core.Path.{refl, sym}
use borrow.Author.Rules.{rules}
use Rattle.numbers.proofs.Every.{all_none, all_and}
use Rattle.query.proofs.known.are_between.Goals as goal

pub loop-i-preserved : goal.loop-i-preserved
loop-i-preserved c = let l = c.loop-i in (omega (arith, c.loop-i-test.true), l.invariant.1, all_and l.i _ _ _ refl l.invariant.2)

pub loop-i-init : goal.loop-i-init
loop-i-init c = (search rules, search rules, sym (all_none _))

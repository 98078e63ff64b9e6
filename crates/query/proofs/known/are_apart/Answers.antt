use native.Mathlib.Omega.{arith}
use mathlib.Core.Bool.{Bool, ◌&&◌}
use mathlib.Core.Path.{sym, ap}
use borrow.Author.Rules.{rules}
use lib.Ieee.{lt}
use Rattle.numbers.proofs.Every.{all_none, all_and}
use Rattle.table.specs.Table.{at}
use Rattle.query.proofs.known.are_apart.Goals as goal

pub loop-k-preserved : goal.loop-k-preserved
loop-k-preserved c = let l = c.loop-k in
    let a = c.args in
    (omega (arith, c.loop-k-test.true), l.invariant.1, all_and l.k _ _ _ (ap (λ (b : Bool). lt (at a.starts.now l.k) (at a.ends.now l.k) && b) c.is_ordinary_divisor.ensures) l.invariant.2)

pub loop-k-init : goal.loop-k-init
loop-k-init c = (search rules, search rules, sym (all_none _))

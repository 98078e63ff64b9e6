use native.Mathlib.Omega.{arith}
use mathlib.Core.Path.{◌≡◌, sym}
use borrow.Author.Rules.{rules}
use lib.ListN.{length}
use Rattle.table.specs.Check.{all_finite}
use Rattle.table.proofs.Counts.{count_none, count_next, count_grows, count_all}
use Rattle.table.proofs.check.all_finite.Goals as goal

pub loop-x-init : goal.loop-x-init
loop-x-init c = (search rules, search rules, sym (count_none _))

pub loop-x-preserved : goal.loop-x-preserved
loop-x-preserved c =
    let l = c.loop-x in
    (omega arith, search rules, count_next l.x-index _ c.is_finite.ensures l.invariant.2)

pub returns : goal.returns
unfolding all_finite
returns c =
    let l = c.loop-x in
    let xs = c.args.xs.now in
    let passed : l.x-index ≡ length xs = omega arith in
    count_all (length xs) _ (rw passed at l.invariant.2)

pub overflow_add-finite : goal.overflow_add-finite
overflow_add-finite c =
    let l = c.loop-x in
    let s = count_grows l.x-index _ c.is_finite.result l.invariant.2 in
    record { fits = omega (arith, s) }

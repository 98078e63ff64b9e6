use Prim.Native.Nat.{◌+◌, ◌-◌}
use native.Mathlib.Omega.{arith}
use mathlib.Core.Path.{◌≡◌, sym, ap}
use borrow.Author.Rules.{rules}
use lib.Ieee.{le, nan}
use lib.ListN.{length, get_or}
use Rattle.numbers.specs.Words.{zero}
use Rattle.numbers.proofs.Every.{all_none}
use Rattle.table.specs.Table.{at}
use Rattle.table.specs.Check.{from_zero}
use Rattle.table.proofs.Rest.{rest, rest_length, rest_at}
use Rattle.table.proofs.Counts.{count_none, count_next, count_grows, count_all}
use Rattle.table.proofs.check.from_zero.Goals as goal

pub returns-in_default : goal.returns-in_default
unfolding from_zero
returns-in_default c = let e : length c.args.ys.now ≡ 0 = omega arith in simp (e, all_none)

pub loop-y-init : goal.loop-y-init
loop-y-init c = (search rules, search rules, sym (count_none _))

pub overflow_add-counted : goal.overflow_add-counted
overflow_add-counted c =
    let l = c.loop-y in
    let s = count_grows l.y-index _ (le zero (get_or (rest c.args.ys.now) l.y-index nan)) l.invariant.2 in
    record { fits = omega (arith, s) }

pub loop-y-preserved : goal.loop-y-preserved
loop-y-preserved c =
    let l = c.loop-y in
    (omega arith, search rules, count_next l.y-index _ (ap (le zero) (rest_at c.args.ys.now l.y-index (omega arith))) l.invariant.2)

pub returns : goal.returns
unfolding from_zero
returns c =
    let l = c.loop-y in
    let ys = c.args.ys.now in
    let passed : l.y-index ≡ length ys - 1 = omega arith in
    simp (count_all (length ys - 1) (λ k. le zero (at ys (k + 1))) (rw passed at l.invariant.2), rest_length)

use Prim.Native.Nat.{◌+◌, ◌-◌}
use native.Mathlib.Omega.{arith}
use mathlib.Core.Path.{◌≡◌, refl, sym, ap, ◌∙◌}
use borrow.Author.Rules.{rules}
use lib.Ieee.{Float, lt, nan}
use lib.ListN.{length, get_or}
use Rattle.numbers.specs.Words.{finite}
use Rattle.table.specs.Table.{at}
use Rattle.table.specs.Check.{all_finite, rising}
use Rattle.table.proofs.Checks.{no_knots}
use Rattle.table.proofs.Rest.{rest, rest_length, rest_at}
use Rattle.table.proofs.Counts.{count_none, count_first, count_next, count_grows, count_all}
use Rattle.table.proofs.check.knots_of.Goals as goal

pub returns-in_default : goal.returns-in_default
returns-in_default c = sym (no_knots c.args.xs.now (omega arith))

pub loop-x-init : goal.loop-x-init
loop-x-init c = (search rules, search rules, refl, count_first _ c.is_finite-finite.ensures, sym (count_none _))

pub loop-x-preserved : goal.loop-x-preserved
loop-x-preserved c =
    let l = c.loop-x in
    let xs = c.args.xs.now in
    let knot = rest_at xs l.x-index (omega arith) in
    let rise = ap (λ (b : Float). lt b (at xs (l.x-index + 1))) l.invariant.2 in
    (omega arith, search rules, knot, count_next (l.x-index + 1) _ (c.is_finite.ensures ∙ ap finite knot) l.invariant.3, count_next l.x-index _ (ap (lt l.before) knot ∙ rise) l.invariant.4)

pub returns : goal.returns
unfolding all_finite rising
returns c =
    let l = c.loop-x in
    let xs = c.args.xs.now in
    let passed : l.x-index + 1 ≡ length xs = omega arith in
    let steps : l.x-index ≡ length xs - 1 = omega arith in
    let finites = count_all (length xs) (λ k. finite (at xs k)) (rw passed at l.invariant.3) in
    let rises = count_all (length xs - 1) (λ k. lt (at xs k) (at xs (k + 1))) (rw steps at l.invariant.4) in
    simp (finites, rises, rest_length)

pub overflow_add-finite : goal.overflow_add-finite
overflow_add-finite c =
    let l = c.loop-x in
    let s = count_grows (l.x-index + 1) _ c.is_finite.result l.invariant.3 in
    record { fits = omega (arith, s) }

pub overflow_add-rising : goal.overflow_add-rising
overflow_add-rising c =
    let l = c.loop-x in
    let s = count_grows l.x-index _ (lt l.before (get_or (rest c.args.xs.now) l.x-index nan)) l.invariant.4 in
    record { fits = omega (arith, s) }

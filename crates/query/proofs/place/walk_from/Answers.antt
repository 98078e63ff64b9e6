use native.Mathlib.Omega.{arith}
use Rattle.query.proofs.Walk.{place_le}
use Rattle.query.proofs.Sides.{below, not_below}
use Rattle.query.proofs.place.walk_from.Goals as goal

pub loop-i-init : goal.loop-i-init
loop-i-init c =
    let p = c.requires in
    (p.0, omega (arith, p.0, place_le c.args.xs.now c.args.q))

pub loop-i-preserved : goal.loop-i-preserved
loop-i-preserved c =
    let l = c.loop-i in
    let a = c.args in
    let p = c.requires in
    let t = c.if-last-i.false in
    (not_below a.xs.now a.q p.3 _ (omega (arith, t)) c.if-q-xs.false, omega (arith, t))

pub returns-then-last-i : goal.returns-then-last-i
returns-then-last-i c =
    let l = c.loop-i in
    let a = c.args in
    omega (arith, l.invariant.0, c.if-last-i.true, place_le a.xs.now a.q)

pub returns-then-q-xs : goal.returns-then-q-xs
returns-then-q-xs c =
    let l = c.loop-i in
    let a = c.args in
    omega (arith, l.invariant.0, below a.xs.now a.q _ (omega arith) c.if-q-xs.true)

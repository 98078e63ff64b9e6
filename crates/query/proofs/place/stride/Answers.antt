use Prim.Native.Nat.{◌+◌, ◌*◌, ◌≤◌}
use native.Mathlib.Omega.{arith}
use mathlib.Core.Bool.{not}
use mir.Val.{bool_byte}
use lib.Ieee.{lt}
use Rattle.table.specs.Table.{at}
use Rattle.query.proofs.Sides.{Strode, looked}
use Rattle.query.proofs.place.stride.Goals as goal

pub loop-probe-preserved : goal.loop-probe-preserved
loop-probe-preserved c =
    let turned : let l = c.loop-probe in
    let a = c.args in
    Strode a.xs.now a.q a.step (l.at + a.step * bool_byte (not (lt a.q (at a.xs.now l.probe)))) (l.probe + a.step)
    × (l.at + a.step * bool_byte (not (lt a.q (at a.xs.now l.probe))) + a.step ≤ l.probe + a.step) = let l = c.loop-probe in
    let a = c.args in
    let p = c.requires in
    looked a.xs.now a.q p.6 a.step l.at l.probe (omega (arith, p.2, c.loop-probe-test.true)) (omega (arith, p.4, l.invariant.0)) l.invariant.0 l.invariant.2 in
    let t = turned in let p = c.requires in (t.1, omega (arith, p.2, p.3, p.5, c.loop-probe-test.true), t.0)

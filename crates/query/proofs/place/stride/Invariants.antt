-- The invariant: it is not past the place, and has come as far as it looked or near enough.
use Prim.Native.Nat.{◌+◌, ◌-◌, ◌≤◌}
use Rattle.query.proofs.Sides.{Strode}
use Rattle.query.proofs.place.stride.Given as goal

abbrev pub invariant-loop-probe : goal.invariant-loop-probe
invariant-loop-probe l = (l.at + l.step ≤ l.probe) × (l.probe ≤ 4352) × Strode l.xs l.q l.step l.at l.probe

abbrev pub decreases-loop-probe : goal.decreases-loop-probe
decreases-loop-probe l = l.end - l.probe

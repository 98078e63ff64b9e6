-- The invariant: it is not past the place.
use Prim.Native.Nat.{◌-◌, ◌≤◌}
use Rattle.query.specs.Query.{place_of}
use Rattle.query.proofs.place.walk_from.Given as goal

abbrev pub invariant-loop-i : goal.invariant-loop-i
invariant-loop-i l = (l.i ≤ place_of l.xs l.q) × (l.i ≤ l.last)

abbrev pub decreases-loop-i : goal.decreases-loop-i
decreases-loop-i l = l.last - l.i

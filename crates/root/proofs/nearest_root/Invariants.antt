-- The invariant: the digits of s * 2 ^ 52 that were taken are root * root + rest, and those to come stand in left.
use Prim.Native.Nat.{◌+◌, ◌-◌, ◌*◌, ◌^◌, ◌≤◌, ◌<◌}
use mathlib.Core.Path.{◌≡◌}
use Rattle.root.proofs.nearest_root.Given as goal

abbrev pub invariant-loop-i : goal.invariant-loop-i
invariant-loop-i l =
    (l.i ≤ 53) × (l.s < 2 ^ 54) × (l.s * 4 ^ l.i ≡ (l.root * l.root + l.rest) * 2 ^ 54 + l.left) × (l.left < 2 ^ 54) × (l.rest ≤ 2 * l.root) × (l.root < 2 ^ l.i)

abbrev pub decreases-loop-i : goal.decreases-loop-i
decreases-loop-i l = 53 - l.i

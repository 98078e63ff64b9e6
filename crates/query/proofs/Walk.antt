-- How far the walk over the inner knots goes.
use Prim.Native.Nat.{ℕ, zero, suc, ◌+◌, ◌-◌, ◌≤◌}
use native.Mathlib.Omega.{arith}
use mathlib.Core.Bool.{Bool, true, false, cond}
use mathlib.Core.List.{List}
use lib.Ieee.{Float, lt}
use lib.ListN.{length}
use Rattle.table.specs.Table.{at}
use Rattle.query.specs.Query.{walk, place_of}

either : (b : Bool) (m n k : ℕ) → m ≤ k → n ≤ k → cond b m n ≤ k
either true m n k h g = h
either false m n k h g = g

walk_le : (x : List Float) (q : Float) (i left : ℕ) → walk x q i left ≤ i + left
unfolding walk
walk_le x q i zero = omega arith
walk_le x q i (suc left) = either (lt q (at x (i + 1))) i (walk x q (i + 1) left) (i + suc left) (omega arith) (omega (arith, walk_le x q (i + 1) left))

pub place_le : (x : List Float) (q : Float) → place_of x q ≤ length x - 2
place_le x q = omega (arith, walk_le x q 0 (length x - 2))

-- 01, Node values; Sheets. The numbers that stand at each knot, by place.
use Prim.Native.Nat as nat
use Rattle.std.specs.Prelude.{ℕ, suc, ◌+◌, ◌-◌, Bool, ◌&&◌, List, eqb, Float, length, get_or, None, Option, Some}
use Rattle.std.proofs.Math.Bool.{cond}
use Rattle.std.specs.Float.{nan}
use Rattle.std.specs.Float.Ieee.{lt}
use Rattle.numbers.specs.Words.{◌⊕◌, ◌⊖◌, ◌⊗◌, ◌⊘◌, zero, half, three_halves}
use Rattle.table.specs.declared.ends.Frame.{Frame}
use Rattle.table.specs.declared.ends.Seam.{Seam}

abbrev pub at : List Float → ℕ → Float
at xs i = get_or xs i nan

-- a node given for an end of the table, in place of the one that the rule gives
abbrev pub End : Type 0
End = Option Float

-- the node at an inner knot, from the averages of the periods on its two sides
abbrev pub inner : Float → Float → Float → Float → Float → Float
inner before here after y next = let p = here ⊖ before in let d = after ⊖ here in d ⊘ (d ⊕ p) ⊗ y ⊕ p ⊘ (d ⊕ p) ⊗ next

-- a seam replaces the node at its count
abbrev pub seamed : Option Seam → ℕ → Float → Float
seamed None i f = f
seamed (Some s) i f = cond (eqb i s.count) s.node f

-- an end node from the average y beside it and the next node f, and not below zero if that is asked
abbrev pub outer : Bool → Float → Float → Float
outer positive y f = let g = three_halves ⊗ y ⊖ half ⊗ f in cond (positive && lt g zero) zero g

-- a given node stands in for the end's own
abbrev pub or_given : End → Float → Float
or_given None f = f
or_given (Some g) f = g

-- knots x, averages y, and what is given about them
module _ (x y : List Float) (frame : Frame) where
  abbrev pub points : ℕ
  points = length x

  unfoldable pub middle_at : ℕ → Float
  middle_at i = seamed frame.seam i (inner (at x (i - 1)) (at x i) (at x (i + 1)) (at y i) (at y (i + 1)))

  -- the neighbours of the end nodes: where there are two points they are each other's, as far as they are given
  unfoldable pub second : Float
  unfolding middle_at
  second = cond (eqb points 2) (or_given frame.right zero) (middle_at 1)

  unfoldable pub second_last : Float
  unfolding middle_at
  second_last = cond (eqb points 2) (or_given frame.left zero) (middle_at (points - 2))

  unfoldable pub first_node : Float
  unfolding second
  first_node = or_given frame.left (outer frame.method.force_positive (at y 1) second)

  unfoldable pub last_node : Float
  unfolding second_last
  last_node = or_given frame.right (outer frame.method.force_positive (at y (points - 1)) second_last)

  unfoldable pub node_at : ℕ → Float
  unfolding first_node last_node middle_at
  node_at i = cond (eqb i 0) first_node (cond (eqb i (points - 1)) last_node (middle_at i))

  -- the total of the first i periods
  unfoldable pub total_at : ℕ → Float
  total_at nat.zero = frame.start
  total_at (suc i) = total_at i ⊕ at y (i + 1) ⊗ (at x (i + 1) ⊖ at x i)

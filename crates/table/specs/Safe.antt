-- Our own: the words in which the proofs say what the safe mode promises of nodes. A number that is not below 0 is at or above 0, or a NaN.
use Rattle.table.specs.Table.{End}
use Rattle.std.specs.Prelude.{false, ◌≡◌, Float, None, Option, Some}
use Rattle.std.specs.Float.Ieee.{lt}
use Rattle.numbers.specs.Words.{zero}
use Rattle.table.specs.declared.ends.Seam.{Seam}
use Rattle.table.specs.declared.ends.Frame.{Frame}

abbrev pub NotBelow : Float → Type 0
NotBelow x = lt x zero ≡ false

-- the node at a seam, or given for an end
abbrev pub SeamNotBelow : Option Seam → Type 0
SeamNotBelow None = Unit {0}
SeamNotBelow (Some s) = NotBelow s.node

abbrev pub EndNotBelow : End → Type 0
EndNotBelow None = Unit {0}
EndNotBelow (Some g) = NotBelow g

-- what is given about a table is not below 0
pub record GivenNotBelow (frame : Frame) : Type 0 where
  pub seam : SeamNotBelow frame.seam
  pub left : EndNotBelow frame.left
  pub right : EndNotBelow frame.right

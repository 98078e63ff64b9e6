-- 02, K9: what is claimed of the three last slots of every record of a table.
use Rattle.std.specs.Prelude.{ℕ, ◌+◌, ◌*◌, List, ◌≡◌, Float, Some}
use Rattle.numbers.specs.Sizes.{slot_count}
use Rattle.numbers.specs.Words.{◌⊕◌, ◌⊖◌, ◌⊗◌, zero}
use Rattle.section.specs.Section.{value}
use Rattle.section.specs.declared.section.Section.{Section}
use Rattle.record.specs.Knots.{left_price, right_price, total_after}
use Rattle.record.specs.Reading.{record_at}
use Rattle.table.specs.Table.{at, total_at}
use Rattle.table.specs.declared.ends.Frame.{Frame}
use Rattle.choice.specs.Totals.{StartsFrom}
use Rattle.assembly.specs.declared.sections.Tail.{Tail}

-- The record at place i holds a section that starts from the total of the periods before, its price at the two knots of its period, and the total after
-- that: a held section as any other, and the only one of two points.
pub record KnotsAt (x y : List Float) (frame : Frame) (tags : List ℕ) (slots : List Float) (i : ℕ) : Type 0 where
  pub section : Section
  pub held : record_at tags slots i ≡ Some section
  pub starts : StartsFrom (total_at x y frame i) section
  pub left : at slots (slot_count * i + left_price) ≡ value section (at x i)
  pub right : at slots (slot_count * i + right_price) ≡ value section (at x (i + 1))
  pub total : at slots (slot_count * i + total_after) ≡ total_at x y frame (i + 1)

-- the tail's price and total stand in the record at place `last`
abbrev pub TailInRecord : ℕ → List Float → Tail → Type 0
TailInRecord last slots tail = (tail.value ≡ at slots (slot_count * last + right_price)) × (tail.total ≡ at slots (slot_count * last + total_after))

-- a held section at place `last` has its average at both knots
abbrev pub HeldPrices : ℕ → List Float → List Float → Type 0
HeldPrices last y slots = (at slots (slot_count * last + left_price) ≡ at y (last + 1)) × (at slots (slot_count * last + right_price) ≡ at y (last + 1))

-- the only record of two points: their average at both, and the total from +0.0 on
abbrev pub TwoPoints : List Float → List Float → List Float → Type 0
TwoPoints x y slots = (at slots left_price ≡ at y 1) × (at slots right_price ≡ at y 1) × (at slots total_after ≡ zero ⊕ at y 1 ⊗ (at x 1 ⊖ at x 0))

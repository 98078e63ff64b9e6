-- Steps of the code, which only the contracts of private functions cite.
use Rattle.std.specs.Prelude.{ℕ, ◌+◌, ◌-◌, ◌*◌, ◌/◌, ◌≤◌, ◌<◌, Bool, cond, ◌&&◌, List, ◌⊎◌, ◌≡◌, eqb, leb, Float, length, None, Some}
use Rattle.numbers.specs.Overlay.{overlay}
use Rattle.numbers.specs.Sizes.{slot_count}
use Rattle.refusal.specs.Refusal.{first, Verdict}
use Rattle.table.specs.Buffers.{Buffers, Outcome}
use Rattle.table.specs.Sound.{Sound, Room}
use Rattle.table.specs.Table.{at, node_at, total_at, End}
use Rattle.table.specs.declared.method.ConvexMonotone.{ConvexMonotone}
use Rattle.assembly.specs.Making.{size_tests}
use Rattle.assembly.specs.Sections.{tag_at, slot_at, tail_of}
use Rattle.sheets.specs.Pieces.{Piece, whole, answer_of}
use Rattle.sheets.specs.declared.sheet.SheetEnd.{SheetEnd}

-- whether a place lies within buffers of these lengths
abbrev pub reaches : ℕ → ℕ → ℕ → ℕ → Bool
reaches place nodes tags slots = leb place nodes && (leb place tags && leb place (slots / slot_count))

-- the verdict on the sizes of the parts from there on
abbrev pub part_verdict : ℕ → List Float → List Float → Buffers → Verdict
part_verdict place x y b = first (size_tests (length x) (length y) (length b.nodes - place) (length b.tags - place) (length b.slots - slot_count * place))

-- the node that a sheet is given on its left
abbrev pub left_end : List Float → ℕ → End
left_end nodes from = cond (eqb from 0) None (Some (at nodes from))

-- a sheet that is handed the whole's numbers: a stretch of the table with the whole's nodes where it was cut, and the total before it
pub record Fair (x y : List Float) (method : ConvexMonotone) (p : Piece) : Type 0 where
  pub rising : p.from < p.to
  pub inside : p.to ≤ length x - 1
  pub left_end : ((p.from ≡ 0) × (p.left ≡ None)) ⊎ ((0 < p.from) × (p.left ≡ Some (node_at x y (whole method) p.from)))
  pub right_end : ((p.to ≡ length x - 1) × (p.right ≡ None)) ⊎ ((p.to < length x - 1) × (p.right ≡ Some (node_at x y (whole method) p.to)))
  pub total : p.start ≡ total_at x y (whole method) p.from

module _ (x y : List Float) (method : ConvexMonotone) where
  -- the buffers with the whole's nodes and records at a sheet's places
  abbrev pub whole_at : Piece → Buffers → Buffers
  whole_at p b = record {
    nodes = overlay p.from (p.to - p.from + 1) (λ k. node_at x y (whole method) (p.from + k)) b.nodes;
    tags = overlay p.from (p.to - p.from) (λ k. tag_at x y (whole method) (p.from + k)) b.tags;
    slots = overlay (slot_count * p.from) (slot_count * (p.to - p.from)) (λ k. slot_at x y (whole method) (slot_count * p.from + k)) b.slots;
  }

-- a sound table of three points or more, and buffers with room for it
pub record Ready (x y : List Float) (method : ConvexMonotone) (b : Buffers) : Type 0 where
  pub low : 3 ≤ length x
  pub sound : Sound x y method
  pub room : Room (length x) (length b.nodes) (length b.tags) (length b.slots)

-- what a sheet of such a table answers, and the buffers as it leaves them
abbrev pub piece_of_whole : List Float → List Float → ConvexMonotone → Piece → Buffers → Outcome SheetEnd
piece_of_whole x y method p b = record { answer = answer_of p.right (total_at x y (whole method) p.to) (tail_of x y (whole method)); buffers = whole_at x y method p b }

-- Demand 3, over the contracts of `build` and `sheet` as a caller sees them: what they allow to be answered and left. `proofs/Demand.antt` proves both statements
-- of the two functions.
use Rattle.curve.specs.Curve.{Built}
use Rattle.std.specs.Prelude.{ℕ, ◌+◌, ◌-◌, ◌*◌, ◌≤◌, ◌<◌, Bool, true, false, cond, ◌&&◌, List, [], ◌∷◌, map, ◌⊎◌, ◌≡◌, eqb, Float, length, get_or, Err, None, Ok, Option, Some}
use Rattle.numbers.specs.Sizes.{slot_count}
use Rattle.table.specs.Buffers.{Buffers, Outcome}
use Rattle.table.specs.Sound.{Room}
use Rattle.table.specs.Table.{node_at, total_at, End}
use Rattle.table.specs.declared.method.ConvexMonotone.{ConvexMonotone}
use Rattle.table.specs.declared.ends.Seam.{Seam}
use Rattle.assembly.specs.declared.sections.Tail.{Tail}
use Rattle.sheets.specs.Cuts.{start_of, finish_of, cuts_fit}
use Rattle.sheets.specs.Pieces.{Piece, part, whole, answer_of}
use Rattle.sheets.specs.Sheet.{no_tail, SheetBuilt}

-- equally many knots and averages, 3 to 4,096, and one cut or more: inner knots, each above the one before
pub record CutTable (x y : List Float) (cuts : List ℕ) : Type 0 where
  pub same : length x ≡ length y
  pub low : 3 ≤ length x
  pub high : length x ≤ 4096
  pub cut : 0 < length cuts
  pub inner : cuts_fit cuts (length x) ≡ true

-- buffers with room for the whole, whatever they hold
abbrev pub RoomFor : List Float → Buffers → Type 0
RoomFor x b = Room (length x) (length b.nodes) (length b.tags) (length b.slots)

-- a call of `sheet`: which sheet it is for, and the left node, the right node and the starting total that it is handed
pub record Call : Type 0 where
  pub sheet : ℕ
  pub left : Float
  pub right : Float
  pub start : Float

-- its sheet: a node is given wherever the table was cut, and nowhere else
abbrev pub piece_of : ℕ → List ℕ → Call → Piece
piece_of n cuts q = record {
  from = start_of cuts q.sheet;
  to = finish_of n cuts q.sheet;
  left = cond (eqb q.sheet 0) None (Some q.left);
  right = cond (eqb q.sheet (length cuts)) None (Some q.right);
  start = q.start;
}

-- one of a list
abbrev pub One : {A : Type 0} → A → List A → Type 0
One a [] = ⊥
One a (b ∷ bs) = (a ≡ b) ⊎ One a bs

-- calls for every sheet and for nothing else, in any order, with repeats
pub record Complete (cuts : List ℕ) (calls : List Call) : Type 0 where
  pub only : (q : Call) → One q calls → q.sheet ≤ length cuts
  pub every : (j : ℕ) → j ≤ length cuts → (q : Call) × One q calls × (q.sheet ≡ j)

abbrev pub is_curve : Built → Bool
is_curve (Ok c) = true
is_curve (Err r) = false

abbrev pub tail_in : Built → Tail
tail_in (Ok c) = c.tail
tail_in (Err r) = no_tail

abbrev pub is_sheet : SheetBuilt → Bool
is_sheet (Ok s) = true
is_sheet (Err r) = false

unfoldable pub all_sheets : List SheetBuilt → Bool
all_sheets [] = true
all_sheets (a ∷ more) = is_sheet a && all_sheets more

module _ (x y : List Float) (method : ConvexMonotone) (cuts : List ℕ) where
  -- the whole's nodes at the two ends of sheet j, and the whole's total before it
  abbrev pub handed : ℕ → Call
  handed j = record {
    sheet = j;
    left = node_at x y (whole method) (start_of cuts j);
    right = node_at x y (whole method) (finish_of (length x) cuts j);
    start = total_at x y (whole method) (start_of cuts j);
  }

  -- what a sheet answers of a whole with this tail: the whole's total at its end, and the tail if it is the last sheet
  abbrev pub answer_to : Tail → Call → SheetBuilt
  answer_to t q = Ok (answer_of (piece_of (length x) cuts q).right (total_at x y (whole method) (finish_of (length x) cuts q.sheet)) t)

-- of a buffer: the entries from a place on are the whole's, so many of them, and all others are the old ones
pub record TakenFrom {A : Type 0} (place count : ℕ) (whole old new : List A) : Type 0 where
  pub as_long : length new ≡ length old
  pub inside : (i : ℕ) (d : A) → place ≤ i → i < place + count → get_or new i d ≡ get_or whole i d
  pub outside : (i : ℕ) (d : A) → (i < place) ⊎ (place + count ≤ i) → get_or new i d ≡ get_or old i d

-- what a contract allows: this outcome of a call with these arguments
abbrev pub BuildAllows : Type 1
BuildAllows = List Float → List Float → ConvexMonotone → Bool → Option Seam → Buffers → Outcome Built → Type 0

abbrev pub SheetAllows : Type 1
SheetAllows = List Float → List Float → ConvexMonotone → End → End → Float → ℕ → Buffers → Outcome SheetBuilt → Type 0

module _ (build : BuildAllows) (sheet : SheetAllows) where
  -- a call for one sheet of a table
  abbrev pub Sheeted : List Float → List Float → ConvexMonotone → Piece → Buffers → Outcome SheetBuilt → Type 0
  Sheeted x y method p b o = sheet (part p x) (part p y) method p.left p.right p.start p.from b o

  -- calls one after the other, each on the buffers that the one before left: their answers, and the buffers at the end
  abbrev pub Calls : List Float → List Float → ConvexMonotone → List ℕ → List Call → Buffers → List SheetBuilt → Buffers → Type 0
  Calls x y method cuts [] b [] c = c ≡ b
  Calls x y method cuts [] b (a ∷ more) c = ⊥
  Calls x y method cuts (q ∷ qs) b [] c = ⊥
  Calls x y method cuts (q ∷ qs) b (a ∷ more) c =
      (d : Buffers) × Sheeted x y method (piece_of (length x) cuts q) b (record { answer = a; buffers = d }) × Calls x y method cuts qs d more c

  -- Demand 3. A table cut into sheets at inner knots, with no seam and no held last period, and the whole built on the same buffers: the sheets are all
  -- accepted exactly when the whole is, whatever numbers each is handed. If they are, and each was handed the whole's numbers, then the nodes, tags and slots
  -- that they leave are those that the whole leaves, and they answer the whole's totals and, for the last sheet, the whole's tail.
  abbrev pub SameCurve : Type 0
  SameCurve =
      (x y : List Float) (method : ConvexMonotone) (cuts : List ℕ) → CutTable x y cuts → (b : Buffers) → RoomFor x b →
      (w : Outcome Built) → build x y method false None b w →
      (calls : List Call) → Complete cuts calls → (answers : List SheetBuilt) (c : Buffers) → Calls x y method cuts calls b answers c →
      (all_sheets answers ≡ is_curve w.answer)
      × (((q : Call) → One q calls → q ≡ handed x y method cuts q.sheet) → is_curve w.answer ≡ true →
      (c ≡ w.buffers) × (answers ≡ map (answer_to x y method cuts (tail_in w.answer)) calls))

  -- For sheets that are built on different machines. Whatever buffers a sheet is lent and whatever buffers the whole was, where both are accepted and the sheet
  -- was handed the whole's numbers, every entry that it writes is the whole's at that place and no other entry changes.
  abbrev pub SameAnywhere : Type 0
  SameAnywhere =
      (x y : List Float) (method : ConvexMonotone) (cuts : List ℕ) → CutTable x y cuts →
      (b : Buffers) (w : Outcome Built) → build x y method false None b w → is_curve w.answer ≡ true →
      (j : ℕ) → j ≤ length cuts → (c : Buffers) (o : Outcome SheetBuilt) →
      Sheeted x y method (piece_of (length x) cuts (handed x y method cuts j)) c o → is_sheet o.answer ≡ true →
      let p = piece_of (length x) cuts (handed x y method cuts j) in
      (o.answer ≡ answer_to x y method cuts (tail_in w.answer) (handed x y method cuts j))
      × TakenFrom p.from (p.to - p.from + 1) w.buffers.nodes c.nodes o.buffers.nodes
      × TakenFrom p.from (p.to - p.from) w.buffers.tags c.tags o.buffers.tags
      × TakenFrom (slot_count * p.from) (slot_count * (p.to - p.from)) w.buffers.slots c.slots o.buffers.slots

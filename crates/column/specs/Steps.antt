-- Steps of the code, which only the contracts of private functions cite.
use Rattle.curve.specs.Curve.{Built}
use Rattle.refusal.specs.Refusal.{Verdict}
use Prim.Native.Nat as nat
use Rattle.std.specs.Prelude.{ℕ, suc, ◌+◌, ◌-◌, ◌*◌, ◌≤◌, ◌<◌, Bool, true, false, cond, ◌&&◌, List, ◌≡◌, Float, length, get_or, take, drop, Err, Ok, Option}
use Rattle.numbers.specs.Every.{all_below}
use Rattle.numbers.specs.Overlay.{overlay}
use Rattle.numbers.specs.Sizes.{slot_count}
use Rattle.numbers.specs.Words.{◌⊕◌, ◌⊖◌, ◌⊗◌, zero, one, finite}
use Rattle.section.specs.Section.{primitive}
use Rattle.record.specs.Knots.{total_after}
use Rattle.record.specs.Number.{answer_in, or_zero}
use Rattle.record.specs.Reading.{record_at}
use Rattle.record.specs.Tag.{split_tag}
use Rattle.record.specs.Unusual.{unusual_split}
use Rattle.refusal.specs.declared.Refusal.TheVariants.{BufferTooShort}
use Rattle.table.specs.Buffers.{Buffers, outcome}
use Rattle.table.specs.Table.{at}
use Rattle.table.specs.declared.ends.Seam.{Seam}
use Rattle.table.specs.declared.method.ConvexMonotone.{ConvexMonotone}
use Rattle.choice.specs.Starts.{mixing}
use Rattle.assembly.specs.Starts.{knots_modest, method_modest, seam_modest, period_modest}
use Rattle.curve.specs.Build.{build_outcome}
use Rattle.curve.specs.declared.curve.Curve.{Curve}
use Rattle.column.specs.Column.{column_at}

-- what a check of the table says where its column is too short
abbrev pub last_verdict : Verdict → Built
last_verdict (Ok tt) = Err BufferTooShort
last_verdict (Err r) = Err r

-- the column after a build: that of the curve, and after a refusal as it was
abbrev pub column_of : List Float → Built → List ℕ → List Float → List Float → List Float
column_of x (Err r) tags slots column = column
column_of x (Ok c) tags slots column = overlay 0 (length x) (column_at x c tags slots) column

-- a table of ordinary size, by its settings alone
abbrev pub modest_table : List Float → List Float → ConvexMonotone → Option Seam → Bool
modest_table x y method seam = knots_modest x && (method_modest method && (seam_modest seam && all_below (length x - 1) (period_modest x y)))

-- the curve and the records are those that a build of the table answers and leaves, whatever buffers were lent to it and whether it was held
pub record JustBuilt (x y : List Float) (method : ConvexMonotone) (seam : Option Seam) (curve : Curve) (tags : List ℕ) (slots : List Float) : Type 0 where
  pub hold : Bool
  pub lent : Buffers
  pub nodes : List Float
  pub is : outcome (Ok curve) nodes tags slots ≡ build_outcome x y method hold seam lent

-- the total before section i: +0.0, and then what the record before holds
abbrev pub total_before : List Float → ℕ → Float
total_before slots nat.zero = zero
total_before slots (suc i) = at slots (slot_count * i + total_after)

-- the total after the last period, in the last record
abbrev pub whole_total : List Float → List Float → Float
whole_total x slots = at slots (slot_count * (length x - 2) + total_after)

-- the entries can be read off the records
abbrev pub readable : List Float → List Float → ConvexMonotone → Option Seam → List Float → Bool
readable x y method seam slots = modest_table x y method seam && finite (whole_total x slots)

-- a total weighed against itself
abbrev pub weighed_by : Float → Float → Float
weighed_by weight total = weight ⊗ total ⊕ (one ⊖ weight) ⊗ total

-- what section i starts from, where it has no unusual split: the total before it, by the weight of its record where the settings make sections of two parts
abbrev pub start_by : Bool → List Float → ℕ → Float
start_by mixed slots i = cond mixed (weighed_by (at slots (slot_count * i)) (total_before slots i)) (total_before slots i)

abbrev pub start_at : ConvexMonotone → List Float → ℕ → Float
start_at method slots i = start_by (mixing method) slots i

-- what the record of section i answers at its own left knot
abbrev pub number_at : List Float → List ℕ → List Float → ℕ → Float
number_at x tags slots i = or_zero (answer_in (λ s. primitive s (at x i)) (record_at tags slots i))

-- whether section i is asked: by its record, at its own left knot
abbrev pub asks_at : List Float → List ℕ → List Float → ℕ → Bool
asks_at x tags slots i = unusual_split (get_or tags i 0) (take slot_count (drop (slot_count * i) slots)) (at x i)

-- where it is, its record's number, else what stands there
abbrev pub asked_at : List Float → List ℕ → List Float → List Float → ℕ → Float
asked_at x tags slots column i = cond (asks_at x tags slots i) (number_at x tags slots i) (at column i)

-- both: the entry of section i
abbrev pub entry_by : Bool → Bool → List Float → List ℕ → List Float → ℕ → Float
entry_by mixed positive x tags slots i = cond (positive && asks_at x tags slots i) (number_at x tags slots i) (start_by mixed slots i)

abbrev pub entry_at : ConvexMonotone → List Float → List ℕ → List Float → ℕ → Float
entry_at method x tags slots i = entry_by (mixing method) method.force_positive x tags slots i

-- ---- a list of sections
-- where section i stands in it
pub record Place (places : List ℕ) (count i : ℕ) : Type 0 where
  pub place : ℕ
  pub low : place < count
  pub is : get_or places place 0 ≡ i

-- it has each split one of the sections from `from` to `to`, and no section that is not one of these
pub record Listed (tags : List ℕ) (from to : ℕ) (places : List ℕ) (count : ℕ) : Type 0 where
  pub few : count ≤ to - from
  pub inside : (k : ℕ) → k < count → (from ≤ get_or places k 0) × (get_or places k 0 < to)
  pub all : (i : ℕ) → from ≤ i → i < to → split_tag (get_or tags i 0) ≡ true → Place places count i

-- section i has a knot, a tag, a record and an entry
pub record Within (knots tags slots entries i : ℕ) : Type 0 where
  pub small : i < 4096
  pub knot : i < knots
  pub tag : i < tags
  pub slot : slot_count * i + slot_count ≤ slots
  pub entry : i < entries

-- the entries after the listed ones that are unusual were asked
pub record Asked (x : List Float) (tags : List ℕ) (slots : List Float) (places : List ℕ) (count : ℕ) (old new : List Float) : Type 0 where
  pub size : length new ≡ length old
  pub asked : (k : ℕ) → k < count → asks_at x tags slots (get_or places k 0) ≡ true → at new (get_or places k 0) ≡ number_at x tags slots (get_or places k 0)
  pub unasked : (j : ℕ) → asks_at x tags slots j ≡ false → at new j ≡ at old j
  pub unlisted : (j : ℕ) → ((k : ℕ) → k < count → get_or places k 0 ≡ j → ⊥) → at new j ≡ at old j

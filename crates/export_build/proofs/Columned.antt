-- What crosses the boundary of a curve with its column.
use Rattle.std.specs.Prelude.{Err, Ok}
use Prim.Native.Nat.{ℕ}
use mathlib.Core.Bool.{Bool, true, false}
use mathlib.Core.List.{List}
use mathlib.Core.Path.{◌≡◌, refl, ap, ◌∙◌}
use lib.Dec.{ltb}
use lib.Ieee.{Float}
use lib.ListN.{length}
use Rattle.refusal.specs.Refusal.{number}
use Rattle.refusal.specs.declared.Refusal.TheVariants.{SplitUnknown}
use Rattle.table.specs.Buffers.{Buffers, Outcome}
use Rattle.curve.specs.Curve.{curve_in_numbers, Built}
use Rattle.column.specs.Column.{Columned, column_by, with_column}
use Rattle.export_build.specs.Building.{no_answer, short_refusal, count_left, tail_left}
use Rattle.export_build.specs.Columns.{ColumnAcross, in_mode_column}

-- a mode that is not known: no slice changes
pub column_mode_refused : (b : Buffers) (sections : List ℕ) (tail column : List Float) (d : Columned) (is_unknown : Bool) (n : ℕ) → is_unknown ≡ true → n ≡ number SplitUnknown →
    record { refusal = n; buffers = b; sections = sections; tail = tail; column = column } ≡ in_mode_column is_unknown b sections tail column d
column_mode_refused b sections tail column d is_unknown n h e = rw (h, e)

-- in a known mode, whatever the library answers and leaves
module _ (is_unknown : Bool) (known : is_unknown ≡ false) (b : Buffers) (sections : List ℕ) (tail column : List Float) (d : Columned) where
  pub column_short : (n : ℕ) → no_answer (length sections) (length tail) ≡ true → n ≡ short_refusal d.answer →
      record { refusal = n; buffers = b; sections = sections; tail = tail; column = column } ≡ in_mode_column is_unknown b sections tail column d
  column_short n h e = rw (known, h, e)

  abbrev told : Columned → ColumnAcross
  told o =
      record { refusal = (curve_in_numbers o.answer).refusal; buffers = o.buffers; sections = count_left o.answer sections; tail = tail_left o.answer tail; column = o.column }

  pub column_roomy : (o : Columned) (n : ℕ) (s : List ℕ) (t : List Float) → no_answer (length sections) (length tail) ≡ false → o ≡ d →
      (n ≡ (curve_in_numbers o.answer).refusal) × ((s ≡ count_left o.answer sections) × (t ≡ tail_left o.answer tail)) →
      record { refusal = n; buffers = o.buffers; sections = s; tail = t; column = o.column } ≡ in_mode_column is_unknown b sections tail column d
  column_roomy o n s t h e (p, (q, r)) = rw (p, q, r) (ap told e ∙ rw (known, h))

-- with no room for the answers a short column adds nothing: its refusal is the same 11
pub short_with : (x : List Float) (b : Buffers) (column : List Float) (o : Outcome Built) → short_refusal o.answer ≡ short_refusal (with_column x b column o).answer
short_with x b column o = by o.answer (ltb (length column) (length x)) refl
  where
    by : (k : Built) (short : Bool) → ltb (length column) (length x) ≡ short → short_refusal k ≡ short_refusal (column_by x b column k o.buffers).answer
    by (Err r) short e = refl
    by (Ok c) true e = rw e
    by (Ok c) false e = rw e

-- 02, K1: what comes back of a curve with its column, and what every lent slice holds afterwards.
use Rattle.std.specs.Prelude.{ℕ, Bool, cond, List, Float, length}
use Rattle.refusal.specs.Refusal.{number}
use Rattle.refusal.specs.declared.Refusal.TheVariants.{SplitUnknown}
use Rattle.table.specs.Buffers.{Buffers, buffers}
use Rattle.curve.specs.Curve.{curve_in_numbers}
use Rattle.column.specs.Column.{Columned}
use Rattle.export_build.specs.Building.{no_answer, short_refusal, count_left, tail_left}

-- a refusal's number, or 0, and the lent slices as they are left
pub record ColumnAcross : Type 0 where
  pub refusal : ℕ
  pub buffers : Buffers
  pub sections : List ℕ
  pub tail : List Float
  pub column : List Float

abbrev pub across_column : ℕ → List Float → List ℕ → List Float → List ℕ → List Float → List Float → ColumnAcross
across_column refusal nodes tags slots sections tail column =
    record { refusal = refusal; buffers = buffers nodes tags slots; sections = sections; tail = tail; column = column }

-- With no room for a curve's own numbers no slice changes, and 11 comes last, as for a short column.
abbrev pub column_across : Buffers → List ℕ → List Float → List Float → Columned → ColumnAcross
column_across b sections tail column o =
    cond (no_answer (length sections) (length tail))
    (record { refusal = short_refusal o.answer; buffers = b; sections = sections; tail = tail; column = column })
    (record { refusal = (curve_in_numbers o.answer).refusal; buffers = o.buffers; sections = count_left o.answer sections; tail = tail_left o.answer tail; column = o.column })

-- A mode that is not known is refused first, by a number of our own, and no slice changes.
abbrev pub in_mode_column : Bool → Buffers → List ℕ → List Float → List Float → Columned → ColumnAcross
in_mode_column is_unknown b sections tail column o =
    cond is_unknown
    (record { refusal = number SplitUnknown; buffers = b; sections = sections; tail = tail; column = column })
    (column_across b sections tail column o)

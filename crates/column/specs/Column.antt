-- 02, K1: the column of a curve, and what a build that is asked for one answers and leaves.
use Rattle.curve.specs.Curve.{Built}
use Rattle.std.specs.Prelude.{ℕ, cond, List, ltb, Float, length, Err, Ok}
use Rattle.numbers.specs.Overlay.{overlay}
use Rattle.section.specs.Section.{primitive}
use Rattle.refusal.specs.declared.Refusal.TheVariants.{BufferTooShort}
use Rattle.table.specs.Buffers.{Buffers, Outcome, buffers}
use Rattle.table.specs.Table.{at}
use Rattle.curve.specs.declared.curve.Curve.{Curve}
use Rattle.query.specs.Many.{formula_at}

-- the number that the formula gives the `primitive` query at knot i, by its bits, finite or not; at the last knot that is the tail's number
abbrev pub column_at : List Float → Curve → List ℕ → List Float → ℕ → Float
column_at x curve tags slots i = formula_at primitive x curve tags slots (at x i)

-- an answer, and the four lent buffers as they are left
pub record Columned : Type 0 where
  pub answer : Built
  pub buffers : Buffers
  pub column : List Float

abbrev pub columned : Built → List Float → List ℕ → List Float → List Float → Columned
columned answer nodes tags slots column = record { answer = answer; buffers = buffers nodes tags slots; column = column }

-- By what a build or a growth does: what it refuses is refused as it is, and then 11 also for a column shorter than the knots. A refusal changes no buffer.
module _ (x : List Float) (old : Buffers) (column : List Float) where
  abbrev pub column_by : Built → Buffers → Columned
  column_by (Err r) new = record { answer = Err r; buffers = new; column = column }
  column_by (Ok c) new =
      cond (ltb (length column) (length x))
      (record { answer = Err BufferTooShort; buffers = old; column = column })
      (record { answer = Ok c; buffers = new; column = overlay 0 (length x) (column_at x c new.tags new.slots) column })

  abbrev pub with_column : Outcome Built → Columned
  with_column o = column_by o.answer o.buffers

-- 02, K1: what is claimed of strips between places of a curve just built.
use Rattle.std.specs.Prelude.{ℕ, ◌<◌, Bool, List, ◌≡◌, Float, length}
use Rattle.table.specs.Table.{at}
use Rattle.curve.specs.Curve.{with_extrapolation}
use Rattle.curve.specs.declared.curve.Curve.{Curve}
use Rattle.query.specs.Strip.{strip_at}
use Rattle.column.specs.Between.{between_at}

-- for all places i < j, with queries outside the knots allowed or not: two entries of the column give what two queries at these knots give, bit for bit
abbrev pub SameStrip : List Float → Curve → List ℕ → List Float → List Float → Type 0
SameStrip x curve tags slots column =
    (i j : ℕ) → i < j → j < length x → (allow : Bool) → between_at x column i j ≡ strip_at x (with_extrapolation curve allow) tags slots (at x i) (at x j)

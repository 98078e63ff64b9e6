-- Steps of the code, which only the contracts of private functions and the proofs cite: an end node from the one beside it.
use Rattle.std.specs.Prelude.{ℕ, cond, eqb, Float}
use Rattle.numbers.specs.Words.{zero}
use Rattle.table.specs.Table.{outer, or_given, End}
use Rattle.table.specs.declared.ends.Frame.{Frame}

abbrev pub beside : ℕ → End → Float → Float
beside n other f = cond (eqb n 2) (or_given other zero) f

abbrev pub first_from : ℕ → Float → Frame → Float → Float
first_from n y frame f = or_given frame.left (outer frame.method.force_positive y (beside n frame.right f))

abbrev pub last_from : ℕ → Float → Frame → Float → Float
last_from n y frame f = or_given frame.right (outer frame.method.force_positive y (beside n frame.left f))

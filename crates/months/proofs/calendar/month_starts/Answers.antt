-- The table's rule is computed over all of its entries.
use mathlib.Core.Path.{refl}
use Rattle.months.proofs.Lengths.{is_table}
use Rattle.months.proofs.calendar.month_starts.Goals as goal

pub returns : goal.returns
returns c = is_table _ refl refl

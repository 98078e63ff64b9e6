-- The invariant: every record passed is legal and of ordinary size.
use Prim.Native.Nat.{◌-◌, ◌*◌, ◌≤◌}
use mathlib.Core.Bool.{true}
use mathlib.Core.Path.{◌≡◌}
use lib.ListN.{length}
use Rattle.numbers.specs.Sizes.{slot_count}
use Rattle.numbers.specs.Every.{all_below}
use Rattle.query.specs.Steps.{ordinary_at}
use Rattle.query.proofs.known.are_ordinary.Given as goal

abbrev pub invariant-loop-i : goal.invariant-loop-i
invariant-loop-i l = (l.i ≤ l.sections) × (l.sections ≤ length l.tags) × (slot_count * l.sections ≤ length l.slots) × (l.sections ≤ 4096) × (all_below l.i (ordinary_at l.tags l.slots) ≡ true)

abbrev pub decreases-loop-i : goal.decreases-loop-i
decreases-loop-i l = l.sections - l.i

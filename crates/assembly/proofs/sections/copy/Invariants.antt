-- The invariant: the first k entries are written.
use Prim.Native.Nat.{◌+◌, ◌-◌, ◌*◌, ◌≤◌}
use mathlib.Core.Path.{◌≡◌}
use lib.Ieee.{nan}
use lib.ListN.{length, get_or}
use Rattle.numbers.specs.Sizes.{field_count, slot_count}
use Rattle.numbers.specs.Overlay.{overlay}
use Rattle.assembly.proofs.sections.copy.Given as goal

abbrev pub invariant-loop-k : goal.invariant-loop-k
invariant-loop-k l =
    (l.k ≤ field_count) × (l.at + field_count ≤ length l.initial.to) × (l.at ≤ slot_count * 4096) × (length l.from ≡ field_count) × (length l.to ≡ length l.initial.to) × (l.to ≡ overlay l.at l.k (λ j. get_or l.from j nan) l.initial.to)

abbrev pub decreases-loop-k : goal.decreases-loop-k
decreases-loop-k l = field_count - l.k

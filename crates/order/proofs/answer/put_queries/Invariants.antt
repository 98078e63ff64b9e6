-- The invariant: the first k lines are written.
use Prim.Native.Nat.{◌+◌, ◌-◌, ◌*◌, ◌≤◌}
use mathlib.Core.Path.{◌≡◌}
use lib.ListN.{length}
use Rattle.numbers.specs.Overlay.{overlay}
use Rattle.order.specs.Answer.{line_byte}
use Rattle.order.specs.Form.{points, queries}
use Rattle.order.proofs.answer.put_queries.Given as goal

abbrev pub invariant-loop-k : goal.invariant-loop-k
invariant-loop-k l =
    (l.k ≤ l.count) × (l.from ≡ 20 + 16 * points l.form.bytes.now) × (points l.form.bytes.now ≤ 200) × (l.count ≡ queries l.form.bytes.now) × (l.count ≤ 64) × (2506 ≤ length l.initial.out) × (length l.out ≡ length l.initial.out) × (l.out ≡ overlay 10 (39 * l.k) (line_byte l.form.bytes.now l.from l.xs l.curve l.tags l.slots) l.initial.out)

abbrev pub decreases-loop-k : goal.decreases-loop-k
decreases-loop-k l = l.count - l.k

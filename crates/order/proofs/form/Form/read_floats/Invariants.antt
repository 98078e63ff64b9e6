-- The invariant: the first i floats are read.
use Prim.Native.Nat.{◌+◌, ◌-◌, ◌*◌, ◌≤◌}
use mathlib.Core.Path.{◌≡◌}
use lib.ListN.{length}
use Rattle.numbers.specs.Overlay.{overlay}
use Rattle.order.specs.Form.{number_at}
use Rattle.order.proofs.form.Form.read_floats.Given as goal

abbrev pub invariant-loop-i : goal.invariant-loop-i
invariant-loop-i l =
    (l.i ≤ l.count) × (l.at ≤ 2048) × (l.count ≤ 200) × (l.count ≤ length l.initial.to) × (length l.to ≡ length l.initial.to) × (l.to ≡ overlay 0 l.i (λ k. number_at l.self.bytes.now (l.at + 8 * k)) l.initial.to)

abbrev pub decreases-loop-i : goal.decreases-loop-i
decreases-loop-i l = l.count - l.i

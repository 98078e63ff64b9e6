-- The invariant: the number in the first k bytes.
use Prim.Native.Nat.{◌-◌, ◌^◌, ◌≤◌, ◌<◌}
use mathlib.Core.Path.{◌≡◌}
use Rattle.order.specs.Form.{number_from}
use Rattle.order.proofs.form.number_from.Given as goal

abbrev pub invariant-loop-k : goal.invariant-loop-k
invariant-loop-k l = (l.k ≤ l.count) × (l.count ≤ 8) × (l.at ≤ 4096) × (l.w ≡ number_from l.order l.at l.k) × (l.w < 256 ^ l.k)

abbrev pub decreases-loop-k : goal.decreases-loop-k
decreases-loop-k l = l.count - l.k

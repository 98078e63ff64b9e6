-- The invariant: the first k digits are written, and the rest of the word is left.
use Prim.Native.Nat.{◌+◌, ◌-◌, ◌^◌, ◌≤◌, ◌<◌}
use mathlib.Core.Path.{◌≡◌}
use lib.ListN.{length}
use Rattle.numbers.specs.Overlay.{overlay}
use Rattle.order.specs.Text.{hex_at, shifted}
use Rattle.order.proofs.text.put_hex.Given as goal

abbrev pub invariant-loop-k : goal.invariant-loop-k
invariant-loop-k l =
    (l.k ≤ 16) × (l.at ≤ 4096) × (l.at + 16 ≤ length l.initial.out) × (length l.out ≡ length l.initial.out) × (l.out ≡ overlay l.at l.k (hex_at l.w) l.initial.out) × (l.left ≡ shifted l.w l.k) × (l.left < 2 ^ 64)

abbrev pub decreases-loop-k : goal.decreases-loop-k
decreases-loop-k l = 16 - l.k

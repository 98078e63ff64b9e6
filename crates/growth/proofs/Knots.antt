-- 02, K9: the three last slots of every record that `grow` leaves: those of a build with the seam that it carries.
use Rattle.curve.specs.Curve.{Built}
use Rattle.std.specs.Prelude.{Err, Ok}
use mathlib.Core.Bool.{Bool, true, false}
use mathlib.Core.List.{List}
use mathlib.Core.Path.{◌≡◌, ap}
use lib.Ieee.{Float}
use lib.ListN.{length}
use Rattle.numbers.specs.OneOutcome.{Follows}
use Rattle.numbers.proofs.Ways.{never}
use Rattle.table.specs.Buffers.{Buffers, Outcome, buffers, outcome}
use Rattle.table.specs.declared.method.ConvexMonotone.{ConvexMonotone}
use Rattle.curve.specs.Build.{build_outcome}
use Rattle.curve.specs.declared.curve.Curve.{Curve}
use Rattle.curve.proofs.Knots.{KnotsIn, answered_knots}
use Rattle.growth.specs.Growth.{carried_at, holds, grown, Carried}
use Rattle.growth.proofs.InNumbers.{seam_in}
use Rattle.growth.proofs.growth.grow.Reads as grow

abbrev is_curve : Built → Bool
is_curve (Ok c) = true
is_curve (Err r) = false

by_seam : (x y : List Float) (method : ConvexMonotone) (hold : Bool) (b : Buffers) (k : Carried) (o : Outcome Built) (c : Curve) →
    o ≡ grown k b (λ s. build_outcome x y method hold s b) → o.answer ≡ Ok c → KnotsIn x y method hold (seam_in k) o.buffers
by_seam x y method hold b (Ok s) o c e f = answered_knots x y method hold s b o c e f
by_seam x y method hold b (Err r) o c e f = never (ap is_curve f) (ap (λ (p : Outcome Built). is_curve p.answer) e)

pub grow_knots : Follows grow.Post (λ κ a r s.
    let (xs, (ys, (method, (localisation, (final, (before, (old_tags, (old_slots, _)))))))) = a in
    let (_, (_, (_, (_, (_, (_, (_, (_, (nodes_left, (tags_left, (slots_left, _))))))))))) = s in
    let carry = carried_at (length xs.now) localisation before old_tags.now old_slots.now in
    (c : Curve) → r ≡ Ok c → KnotsIn xs.now ys.now method (holds (length xs.now) final) (seam_in carry) (buffers nodes_left.now tags_left.now slots_left.now))
grow_knots κ (xs, (ys, (method, (localisation, (final, (before, (old_tags, (old_slots, (nodes, (tags, (slots, _))))))))))) r (_, (_, (_, (_, (_, (_, (_, (_, (nodes_left, (tags_left, (slots_left, _))))))))))) p c f =
    by_seam xs.now ys.now method (holds (length xs.now) final) (buffers nodes.now tags.now slots.now)
    (carried_at (length xs.now) localisation before old_tags.now old_slots.now)
    (outcome r nodes_left.now tags_left.now slots_left.now)
    c p f

-- Our own: every price between the knots of a curve that `build` makes in the safe mode is finite, for prices and lengths of any size that a market has.
use Rattle.curve.specs.Curve.{Built}
use Rattle.std.specs.Prelude.{Err, None, Ok}
use Prim.Native.Nat.{ℕ, ◌-◌, ◌≤◌, ◌<◌}
use native.Mathlib.Omega.{arith}
use mathlib.Core.Bool.{Bool, true}
use mathlib.Core.List.{List}
use mathlib.Core.Path.{◌≡◌, refl, ap, subst, sym}
use borrow.Author.Tests.{eq-eqb, ne_eqb}
use lib.Ieee.{Float}
use lib.ListN.{length}
use Rattle.numbers.specs.OneOutcome.{Follows}
use Rattle.table.specs.Buffers.{Buffers, Outcome, buffers, outcome}
use Rattle.table.specs.Check.{from_zero}
use Rattle.table.specs.Method.{safely}
use Rattle.table.specs.declared.ends.Frame.{Frame}
use Rattle.table.specs.declared.method.ConvexMonotone.{ConvexMonotone}
use Rattle.table.proofs.Outcomes.{was_accepted, left_new}
use Rattle.assembly.specs.Making.{after}
use Rattle.assembly.proofs.Finite.{Safe, OrdinaryTable, FreeFrame, FiniteAt, records_finite}
use Rattle.curve.specs.Build.{build_verdict, whole_frame, curve_of, build_outcome}
use Rattle.curve.specs.declared.curve.Curve.{Curve}
use Rattle.curve.proofs.Accepted.{accepted_sound, accepted_room}
use Rattle.curve.proofs.Careful.{verdict_in}
use Rattle.curve.proofs.Safe.{asked}
use Rattle.curve.proofs.build.build.Reads as build

module _ (x y : List Float) (method : ConvexMonotone) (hold : Bool) (b : Buffers) (set : Safe method) (sizes : OrdinaryTable x y) where
  abbrev frame : Frame
  frame = whole_frame (length x) method hold None

  free : 3 ≤ length x → FreeFrame frame
  free h = rw (ne_eqb (length x) 2 (λ e. omega (arith, e, h))) (record { safe = set; seam = refl; left = refl; right = refl })

  held : length x ≡ 2 → frame.hold ≡ true
  held e = rw (eq-eqb (length x) 2 e) refl

  -- an answered curve was accepted, and its records are those of the table
  answered_finite : (o : Outcome Built) (c : Curve) → o ≡ build_outcome x y method hold None b → o.answer ≡ Ok c →
      (i : ℕ) → i < length x - 1 → FiniteAt x o.buffers.tags o.buffers.slots i
  unfolding curve_of
  answered_finite o c e f i l =
      let accepted : build_verdict x y method None b ≡ Ok tt = was_accepted verdict_in (build_verdict x y method None b) Err (λ r. refl) b _ refl o e (ap verdict_in f) in
      let sound = accepted_sound x y method None (length b.nodes) (length b.tags) (length b.slots) accepted in
      let room = accepted_room x y method None (length b.nodes) (length b.tags) (length b.slots) accepted in
      let left : o.buffers ≡ after 0 x y frame b = ap (λ (p : Outcome Built). p.buffers) (left_new (build_verdict x y method None b) Err b _ o e accepted) in
      let signs = asked (safely method) (from_zero y) sound.signs set.safe in
      subst (λ (k : Buffers). FiniteAt x k.tags k.slots i) (sym left)
      (records_finite x y frame sound.same sound.knots sound.rise signs sizes free held i l b.tags b.slots room.in_tags room.in_slots)

-- of `build` itself, whatever it leaves in the lent buffers
pub build_finite : Follows build.Post (λ κ a r s.
    let (xs, (ys, (method, (hold, (given, (nodes, (tags, (slots, _)))))))) = a in
    let (_, (_, (_, (_, (_, (nodes_left, (tags_left, (slots_left, _)))))))) = s in
    Safe method → given ≡ None → OrdinaryTable xs.now ys.now → (c : Curve) → r ≡ Ok c → (i : ℕ) → i < length xs.now - 1 →
    FiniteAt xs.now tags_left.now slots_left.now i)
build_finite κ (xs, (ys, (method, (hold, (given, (nodes, (tags, (slots, _)))))))) r (_, (_, (_, (_, (_, (nodes_left, (tags_left, (slots_left, _)))))))) p set none sizes c f i l =
    answered_finite xs.now ys.now method hold (buffers nodes.now tags.now slots.now) set sizes (outcome r nodes_left.now tags_left.now slots_left.now) c (rw none at p) f i l

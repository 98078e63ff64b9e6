-- Our own: no node of a curve that `build` makes in the safe mode is below 0, if the node at its seam is not.
use Rattle.curve.specs.Curve.{Built}
use Rattle.std.specs.Prelude.{Err, Ok, Option}
use Prim.Native.Nat.{ℕ, ◌<◌}
use native.Mathlib.Nat.{zero-add}
use mathlib.Core.Bool.{Bool, true, false, not, ◌&&◌}
use mathlib.Core.List.{List}
use mathlib.Core.Path.{◌≡◌, refl, ap, subst, sym, ◌∙◌}
use lib.Dec.{eqb}
use lib.Ieee.{Float, nan}
use lib.ListN.{length}
use Rattle.numbers.specs.OneOutcome.{Follows}
use Rattle.numbers.proofs.Every.{and_split}
use Rattle.numbers.proofs.Overlay.{overlay_inside}
use Rattle.numbers.proofs.Plus.{zero_not_under}
use Rattle.numbers.proofs.Ways.{never, of_both}
use Rattle.table.specs.Buffers.{Buffers, Outcome, buffers, outcome}
use Rattle.table.specs.Check.{from_zero}
use Rattle.table.specs.Method.{is_safe, safely}
use Rattle.table.specs.Safe.{NotBelow, SeamNotBelow, GivenNotBelow}
use Rattle.table.specs.Table.{at, node_at}
use Rattle.table.specs.declared.ends.Frame.{Frame}
use Rattle.table.specs.declared.ends.Seam.{Seam}
use Rattle.table.specs.declared.method.ConvexMonotone.{ConvexMonotone}
use Rattle.table.proofs.Nodes.{node_not_below}
use Rattle.table.proofs.Outcomes.{was_accepted, left_new}
use Rattle.assembly.specs.Making.{after}
use Rattle.curve.specs.Build.{build_verdict, whole_frame, curve_of, build_outcome}
use Rattle.curve.specs.declared.curve.Curve.{Curve}
use Rattle.curve.proofs.Accepted.{accepted_sound, accepted_room}
use Rattle.curve.proofs.Careful.{verdict_in}
use Rattle.curve.proofs.build.build.Reads as build

-- a test that is asked, and passed
pub asked : (a b : Bool) → a && not b ≡ false → a ≡ true → b ≡ true
asked a true h e = refl
asked true false h e = sym h
asked false false h e = never e refl

module _ (x y : List Float) (method : ConvexMonotone) (hold : Bool) (seam : Option Seam) (b : Buffers) (safe : safely method ≡ true) (given : SeamNotBelow seam) where
  abbrev frame : Frame
  frame = whole_frame (length x) method hold seam

  positive : frame.method.force_positive ≡ true
  positive =
      ap (λ (m : ConvexMonotone). m.force_positive) (of_both (λ (f : Frame). f.method ≡ method) (eqb (length x) 2) _ _ refl refl)
      ∙ (and_split (is_safe method.split) method.force_positive safe).1

  ends : GivenNotBelow frame
  ends =
      of_both GivenNotBelow (eqb (length x) 2) _ _ (record { seam = given; left = zero_not_under; right = zero_not_under }) (record { seam = given; left = tt; right = tt })

  -- an answered curve was accepted, and its nodes are those of the table
  answered_not_below : (o : Outcome Built) (c : Curve) → o ≡ build_outcome x y method hold seam b → o.answer ≡ Ok c → (i : ℕ) → i < length x → NotBelow (at o.buffers.nodes i)
  unfolding curve_of
  answered_not_below o c e f i l =
      let accepted : build_verdict x y method seam b ≡ Ok tt = was_accepted verdict_in (build_verdict x y method seam b) Err (λ r. refl) b _ refl o e (ap verdict_in f) in
      let sound = accepted_sound x y method seam (length b.nodes) (length b.tags) (length b.slots) accepted in
      let room = accepted_room x y method seam (length b.nodes) (length b.tags) (length b.slots) accepted in
      let left : o.buffers ≡ after 0 x y frame b = ap (λ (p : Outcome Built). p.buffers) (left_new (build_verdict x y method seam b) Err b _ o e accepted) in
      let signs = asked (safely method) (from_zero y) sound.signs safe in
      let node : at (after 0 x y frame b).nodes i ≡ node_at x y frame i =
      simp zero-add at (overlay_inside 0 (length x) (node_at x y frame) b.nodes i nan l (simp zero-add room.in_nodes)) in
      subst (λ (k : Buffers). NotBelow (at k.nodes i)) (sym left)
      (subst NotBelow (sym node) (node_not_below x y frame positive sound.same sound.rise signs ends i l))

-- of `build` itself, whatever it leaves in the lent nodes
pub build_not_below : Follows build.Post (λ κ a r s.
    let (xs, (ys, (method, (hold, (seam, (nodes, (tags, (slots, _)))))))) = a in
    let (_, (_, (_, (_, (_, (nodes_left, _)))))) = s in
    safely method ≡ true → SeamNotBelow seam → (c : Curve) → r ≡ Ok c → (i : ℕ) → i < length xs.now → NotBelow (at nodes_left.now i))
build_not_below κ (xs, (ys, (method, (hold, (seam, (nodes, (tags, (slots, _)))))))) r (_, (_, (_, (_, (_, (nodes_left, (tags_left, (slots_left, _)))))))) p safe given c f i l =
    answered_not_below xs.now ys.now method hold seam (buffers nodes.now tags.now slots.now) safe given (outcome r nodes_left.now tags_left.now slots_left.now) c p f i l

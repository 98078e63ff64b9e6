-- 02, K3: in every mode but the original's no split parabola in a curve that `build` makes is longer than its period.
use Rattle.curve.specs.Curve.{Built}
use Rattle.refusal.specs.Refusal.{Verdict}
use Rattle.std.specs.Prelude.{Err, Ok, Option}
use Prim.Native.Nat.{ℕ, ◌-◌, ◌<◌}
use mathlib.Core.Bool.{Bool}
use mathlib.Core.List.{List}
use mathlib.Core.Path.{◌≡◌, refl, ap, subst, sym, ◌∙◌}
use lib.Dec.{eqb}
use lib.Ieee.{Float}
use lib.ListN.{length}
use Rattle.numbers.specs.OneOutcome.{Follows}
use Rattle.numbers.proofs.Ways.{of_both}
use Rattle.table.specs.Buffers.{Buffers, Outcome, buffers, outcome}
use Rattle.table.specs.Method.{with_split}
use Rattle.table.specs.declared.ends.Frame.{Frame}
use Rattle.table.specs.declared.ends.Seam.{Seam}
use Rattle.table.specs.declared.method.ConvexMonotone.{ConvexMonotone}
use Rattle.table.specs.declared.method.Split.TheVariants as split
use Rattle.table.proofs.Outcomes.{was_accepted, left_new}
use Rattle.assembly.specs.Careful.{WithinAt}
use Rattle.assembly.specs.Making.{after}
use Rattle.assembly.proofs.Careful.{records_within}
use Rattle.curve.specs.Build.{build_verdict, whole_frame, curve_of, build_outcome}
use Rattle.curve.specs.declared.curve.Curve.{Curve}
use Rattle.curve.proofs.Accepted.{accepted_sound, accepted_room}
use Rattle.curve.proofs.build.build.Reads as build

abbrev pub verdict_in : Built → Verdict
verdict_in (Ok c) = (Ok tt)
verdict_in (Err r) = Err r

module _ (x y : List Float) (method : ConvexMonotone) (hold : Bool) (seam : Option Seam) (b : Buffers) (other : method.split ≡ split.Original → ⊥) where
  abbrev frame : Frame
  frame = whole_frame (length x) method hold seam

  -- both frames of a whole table have its settings
  in_frame : frame.method.split ≡ split.Original → ⊥
  in_frame e = other (sym (ap (λ (m : ConvexMonotone). m.split) (of_both (λ (f : Frame). f.method ≡ method) (eqb (length x) 2) _ _ refl refl)) ∙ e)

  -- an answered curve was accepted, and its records are those of the table
  answered_within : (o : Outcome Built) (c : Curve) → o ≡ build_outcome x y method hold seam b → o.answer ≡ Ok c →
      (i : ℕ) → i < length x - 1 → WithinAt x o.buffers.tags o.buffers.slots i
  unfolding curve_of
  answered_within o c e f i l =
      let accepted : build_verdict x y method seam b ≡ Ok tt = was_accepted verdict_in (build_verdict x y method seam b) Err (λ r. refl) b _ refl o e (ap verdict_in f) in
      let sound = accepted_sound x y method seam (length b.nodes) (length b.tags) (length b.slots) accepted in
      let room = accepted_room x y method seam (length b.nodes) (length b.tags) (length b.slots) accepted in
      let left : o.buffers ≡ after 0 x y frame b = ap (λ (p : Outcome Built). p.buffers) (left_new (build_verdict x y method seam b) Err b _ o e accepted) in
      subst (λ (k : Buffers). WithinAt x k.tags k.slots i) (sym left)
      (records_within x y frame sound.knots sound.rise in_frame i b.tags b.slots l room.in_tags room.in_slots)

-- in careful mode a table is refused for the same as in the original's, or accepted
pub same_verdict : (x y : List Float) (method : ConvexMonotone) (seam : Option Seam) (b : Buffers) →
    build_verdict x y (with_split split.Careful method) seam b ≡ build_verdict x y (with_split split.Original method) seam b
same_verdict x y method seam b = refl

-- of `build` itself, whatever it leaves in the lent buffers
pub build_within : Follows build.Post (λ κ a r s.
    let (xs, (ys, (method, (hold, (seam, (nodes, (tags, (slots, _)))))))) = a in
    let (_, (_, (_, (_, (_, (nodes_left, (tags_left, (slots_left, _)))))))) = s in
    (method.split ≡ split.Original → ⊥) → (c : Curve) → r ≡ Ok c → (i : ℕ) → i < length xs.now - 1 → WithinAt xs.now tags_left.now slots_left.now i)
build_within κ (xs, (ys, (method, (hold, (seam, (nodes, (tags, (slots, _)))))))) r (_, (_, (_, (_, (_, (nodes_left, (tags_left, (slots_left, _)))))))) p other c f i l =
    answered_within xs.now ys.now method hold seam (buffers nodes.now tags.now slots.now) other (outcome r nodes_left.now tags_left.now slots_left.now) c p f i l

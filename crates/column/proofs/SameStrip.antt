-- 02, K1: on the curve just built or grown, a strip between two places is the strip at their knots. Stated of the functions, over their contracts.
use Rattle.query.specs.Query.{QueryAnswer}
use Rattle.std.specs.Prelude.{Err, Ok, Option}
use Prim.Native.Nat.{ℕ, ◌≤◌, ◌<◌}
use native.Mathlib.Omega.{arith}
use native.Mathlib.Nat.{zero-add}
use mathlib.Core.Bool.{Bool, true, false, cond}
use mathlib.Core.List.{List}
use mathlib.Core.Path.{◌≡◌, refl, sym, ap, subst, ◌∙◌}
use borrow.Author.Tests.{lt-ltb, le-ltb, ltb-false}
use lib.Dec.{ltb}
use lib.Ieee.{Float, nan}
use lib.ListN.{length}
use Rattle.numbers.specs.Marks.{mark}
use Rattle.numbers.specs.OneOutcome.{Follows}
use Rattle.numbers.specs.Overlay.{overlay}
use Rattle.numbers.specs.Words.{◌⊖◌, ◌⊘◌}
use Rattle.numbers.proofs.Overlay.{overlay_inside, length_overlay}
use Rattle.numbers.proofs.Ways.{never}
use Rattle.refusal.specs.Refusal.{first, Verdict}
use Rattle.refusal.specs.declared.Refusal.TheVariants.{BufferTooShort, StripEndsNotRising}
use Rattle.table.specs.Buffers.{Buffers, Outcome, buffers}
use Rattle.table.specs.Sound.{Sound, Room}
use Rattle.table.specs.Table.{at}
use Rattle.table.specs.declared.method.ConvexMonotone.{ConvexMonotone}
use Rattle.table.specs.declared.ends.Seam.{Seam}
use Rattle.assembly.specs.Making.{after}
use Rattle.curve.specs.Build.{build_verdict, whole_frame, build_outcome}
use Rattle.curve.specs.Curve.{with_extrapolation, Built}
use Rattle.curve.specs.declared.curve.Curve.{Curve}
use Rattle.curve.proofs.Accepted.{accepted_sound, accepted_room}
use Rattle.query.specs.Strip.{strip_of, total_to, strip_at}
use Rattle.query.proofs.Whole as whole
use Rattle.column.specs.Between.{between_tests, between_by}
use Rattle.growth.specs.Growth.{holds, carried_at, grown, Carried}
use Rattle.column.specs.Column.{Columned, column_at, columned, column_by, with_column}
use Rattle.column.specs.SameStrip.{SameStrip}
use Rattle.column.proofs.Entries as entries
use Rattle.column.proofs.JustBuilt.{curve_in}
use Rattle.column.proofs.Knots.{knot_rise}
use Rattle.column.proofs.Left.{accepted_build}
use Rattle.column.proofs.building.build_with_column.Reads as build-with-column
use Rattle.column.proofs.building.grow_with_column.Reads as grow-with-column

is_curve : Built → Bool
is_curve (Ok c) = true
is_curve (Err r) = false

module _ (x : List Float) (b : Buffers) (column : List Float) where
  by_room : (k : Built) (new : Buffers) (c : Curve) (short : Bool) → ltb (length column) (length x) ≡ short → (column_by x b column k new).answer ≡ Ok c →
      (k ≡ Ok c) × (short ≡ false)
  unfolding is_curve
  by_room (Err r) new c short e h = never refl (ap is_curve (sym h))
  by_room (Ok d) new c true e h = never refl (ap is_curve (sym (rw e at h)))
  by_room (Ok d) new c false e h = (rw e at h, refl)

  -- a curve with its column: the build answered it, and the column had room
  answered_with : (o : Outcome Built) (c : Curve) → (with_column x b column o).answer ≡ Ok c → (o.answer ≡ Ok c) × (ltb (length column) (length x) ≡ false)
  answered_with o c h = by_room o.answer o.buffers c (ltb (length column) (length x)) refl h

module _ (x y : List Float) (method : ConvexMonotone) (hold : Bool) (seam : Option Seam) (b : Buffers) (accepted : build_verdict x y method seam b ≡ Ok tt) where
  abbrev c : Curve
  c = whole.curve x y method hold seam b accepted

  abbrev left : Buffers
  left = after 0 x y (whole_frame (length x) method hold seam) b

  sound : Sound x y method
  sound = accepted_sound x y method seam (length b.nodes) (length b.tags) (length b.slots) accepted

  spare : Room (length x) (length b.nodes) (length b.tags) (length b.slots)
  spare = accepted_room x y method seam (length b.nodes) (length b.tags) (length b.slots) accepted

  -- the total up to knot k, and that a query asks it
  abbrev total : ℕ → Float
  total k = entries.total x y method hold seam b accepted k

  asked_at_lem : (k : ℕ) (allow : Bool) → k < length x → total_to x (with_extrapolation c allow) left.tags left.slots (at x k) ≡ Ok (mark (total k))
  asked_at_lem = entries.asked_at_lem x y method hold seam b accepted

  module _ (column : List Float) (room : length x ≤ length column) where
    abbrev filled : List Float
    filled = overlay 0 (length x) (column_at x c left.tags left.slots) column

    entry : (k : ℕ) → k < length x → at filled k ≡ total k
    entry k l =
        ap (at filled) (sym (zero-add k)) ∙ overlay_inside 0 (length x) (column_at x c left.tags left.slots) column k nan l (omega (arith, room))
        ∙ entries.entry_is x y method hold seam b accepted k l

    fair : (i j : ℕ) → i < j → j < length x → first (between_tests x (length filled) i j) ≡ Ok tt
    fair i j h l =
        rw (
          length_overlay 0 (length x) (column_at x c left.tags left.slots) column,
          le-ltb (length x) 2 sound.low,
          sound.knots,
          sound.rise,
          le-ltb 4096 (length x) spare.high,
          le-ltb (length column) (length x) room,
          lt-ltb i j h,
          lt-ltb j (length x) l,
        )

    built_strip : SameStrip x c left.tags left.slots filled
    unfolding strip_at
    built_strip i j h l allow =
        let m : i < length x = omega (arith, h, l) in
        ap (λ (v : Verdict). between_by v ((at filled j ⊖ at filled i) ⊘ (at x j ⊖ at x i))) (fair i j h l)
        ∙ ap (λ (q : Float). Ok (mark ((q ⊖ at filled i) ⊘ (at x j ⊖ at x i)))) (entry j l)
        ∙ ap (λ (p : Float). Ok (mark ((total j ⊖ p) ⊘ (at x j ⊖ at x i)))) (entry i m)
        ∙ sym
        (ap (λ (p : QueryAnswer). strip_of (at x i) (at x j) p (total_to x (with_extrapolation c allow) left.tags left.slots (at x j))) (asked_at_lem i allow m)
        ∙ ap (strip_of (at x i) (at x j) (Ok (mark (total i)))) (asked_at_lem j allow l)
        ∙ ap (λ (rise : Bool). cond rise (Ok (mark ((total j ⊖ total i) ⊘ (at x j ⊖ at x i)))) (Err StripEndsNotRising))
        (knot_rise x sound.knots sound.rise i j h l))

-- whatever a build with a column answers and leaves
module _ (x y : List Float) (method : ConvexMonotone) (hold : Bool) (seam : Option Seam) (b : Buffers) (column : List Float) where
  pub same_strip : (o : Columned) (c : Curve) → o ≡ with_column x b column (build_outcome x y method hold seam b) → o.answer ≡ Ok c →
      SameStrip x c o.buffers.tags o.buffers.slots o.column
  unfolding curve_in
  same_strip o c e f =
      let p = build_outcome x y method hold seam b in
      let told = answered_with x b column p c (ap (λ (k : Columned). k.answer) (sym e) ∙ f) in
      let accepted = accepted_build x y method hold seam b p c refl told.0 in
      let here = whole.built_curve x y method hold seam b accepted in
      let k = whole.curve x y method hold seam b accepted in
      let same : k ≡ c = ap (λ (q : Outcome Built). curve_in c q.answer) (sym here) ∙ ap (curve_in c) told.0 in
      let left = after 0 x y (whole_frame (length x) method hold seam) b in
      let all : o ≡ record { answer = Ok k; buffers = left; column = overlay 0 (length x) (column_at x k left.tags left.slots) column } =
      e ∙ ap (with_column x b column) here
      ∙ ap (λ (short : Bool). cond short (record { answer = Err BufferTooShort; buffers = b; column = column }) (record { answer = Ok k; buffers = left; column = overlay 0 (length x) (column_at x k left.tags left.slots) column })) told.1 in
      subst (λ (d : Curve). SameStrip x d o.buffers.tags o.buffers.slots o.column) same
      (subst (λ (q : Columned). SameStrip x k q.buffers.tags q.buffers.slots q.column) (sym all)
      (built_strip x y method hold seam b accepted column (ltb-false (length column) (length x) told.1)))

-- whatever a growth with a column does: it builds with the seam that it carries
grown_strip : (x y : List Float) (method : ConvexMonotone) (hold : Bool) (b : Buffers) (column : List Float) (k : Carried) (o : Columned) (c : Curve) →
    o ≡ with_column x b column (grown k b (λ s. build_outcome x y method hold s b)) → o.answer ≡ Ok c → SameStrip x c o.buffers.tags o.buffers.slots o.column
unfolding is_curve
grown_strip x y method hold b column (Err r) o c e f = never refl (ap is_curve (sym f ∙ ap (λ (k : Columned). k.answer) e))
grown_strip x y method hold b column (Ok s) o c e f = same_strip x y method hold s b column o c e f

-- ---- of the functions themselves: whatever they leave in the lent buffers, `strip_between` over it and `strip` answer the same
pub build_strips : Follows build-with-column.Post (λ κ a r s.
    let (xs, (ys, (method, (hold, (seam, (nodes, (tags, (slots, (column, _))))))))) = a in
    let (_, (_, (_, (_, (_, (nodes_left, (tags_left, (slots_left, (column_left, _))))))))) = s in
    (c : Curve) → r ≡ Ok c → SameStrip xs.now c tags_left.now slots_left.now column_left.now)
build_strips κ (xs, (ys, (method, (hold, (seam, (nodes, (tags, (slots, (column, _))))))))) r (_, (_, (_, (_, (_, (nodes_left, (tags_left, (slots_left, (column_left, _))))))))) p c f =
    same_strip xs.now ys.now method hold seam (buffers nodes.now tags.now slots.now) column.now
    (columned r nodes_left.now tags_left.now slots_left.now column_left.now) c p f

pub grow_strips : Follows grow-with-column.Post (λ κ a r s.
    let (xs, (ys, (method, (localisation, (final, (previous, (old_tags, (old_slots, (nodes, (tags, (slots, (column, _)))))))))))) = a in
    let (_, (_, (_, (_, (_, (_, (_, (_, (nodes_left, (tags_left, (slots_left, (column_left, _)))))))))))) = s in
    (c : Curve) → r ≡ Ok c → SameStrip xs.now c tags_left.now slots_left.now column_left.now)
grow_strips κ (xs, (ys, (method, (localisation, (final, (previous, (old_tags, (old_slots, (nodes, (tags, (slots, (column, _)))))))))))) r (_, (_, (_, (_, (_, (_, (_, (_, (nodes_left, (tags_left, (slots_left, (column_left, _)))))))))))) p c f =
    grown_strip xs.now ys.now method (holds (length xs.now) final) (buffers nodes.now tags.now slots.now) column.now
    (carried_at (length xs.now) localisation previous old_tags.now old_slots.now) (columned r nodes_left.now tags_left.now slots_left.now column_left.now) c p f

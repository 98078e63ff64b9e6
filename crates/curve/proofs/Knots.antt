-- 02, K9: the three last slots of every record that `build` leaves, and that the last record has the tail's price and total.
use Rattle.curve.specs.Curve.{Built}
use Rattle.std.specs.Prelude.{Err, Ok, Option}
use Prim.Native.Nat.{ℕ, ◌-◌, ◌<◌}
use native.Mathlib.Omega.{arith}
use mathlib.Core.Bool.{Bool, true, false}
use mathlib.Core.List.{List}
use mathlib.Core.Path.{◌≡◌, refl, sym, ap, subst, ◌∙◌}
use borrow.Author.Tests.{eq-eqb}
use lib.Ieee.{Float}
use lib.ListN.{length}
use Rattle.numbers.specs.OneOutcome.{Follows}
use Rattle.table.specs.Buffers.{Buffers, Outcome, buffers, outcome}
use Rattle.table.specs.Table.{total_at}
use Rattle.table.specs.declared.ends.Frame.{Frame}
use Rattle.table.specs.declared.ends.Seam.{Seam}
use Rattle.table.specs.declared.method.ConvexMonotone.{ConvexMonotone}
use Rattle.table.proofs.Outcomes.{was_accepted, left_new}
use Rattle.assembly.specs.Knots.{KnotsAt, TailInRecord, HeldPrices, TwoPoints}
use Rattle.assembly.specs.Making.{after, slots_after}
use Rattle.assembly.specs.Sections.{tail_of}
use Rattle.assembly.specs.declared.sections.Tail.{Tail}
use Rattle.assembly.proofs.Knots.{right_left, total_left, knots_left_lem, held_left}
use Rattle.curve.specs.Build.{build_verdict, whole_frame, curve_of, build_outcome}
use Rattle.curve.specs.declared.curve.Curve.{Curve}
use Rattle.curve.proofs.Accepted.{accepted_sound, accepted_room}
use Rattle.curve.proofs.Careful.{verdict_in}
use Rattle.curve.proofs.build.build.Reads as build

abbrev tail_in : Tail → Built → Tail
tail_in d (Ok c) = c.tail
tail_in d (Err r) = d

-- every record of a whole table in these buffers
abbrev pub KnotsIn : List Float → List Float → ConvexMonotone → Bool → Option Seam → Buffers → Type 0
KnotsIn x y method hold seam b = (i : ℕ) → i < length x - 1 → KnotsAt x y (whole_frame (length x) method hold seam) b.tags b.slots i

module _ (x y : List Float) (method : ConvexMonotone) (hold : Bool) (seam : Option Seam) (b : Buffers) where
  abbrev frame : Frame
  frame = whole_frame (length x) method hold seam

  module _ (o : Outcome Built) (c : Curve) (e : o ≡ build_outcome x y method hold seam b) (f : o.answer ≡ Ok c) where
    accepted : build_verdict x y method seam b ≡ Ok tt
    unfolding curve_of
    accepted = was_accepted verdict_in (build_verdict x y method seam b) Err (λ r. refl) b _ refl o e (ap verdict_in f)

    made : o ≡ record { answer = curve_of x y frame hold; buffers = after 0 x y frame b }
    made = left_new (build_verdict x y method seam b) Err b _ o e accepted

    -- an answered curve was accepted, and its records are those of the table
    pub answered_knots : KnotsIn x y method hold seam o.buffers
    answered_knots i l =
        let room = accepted_room x y method seam (length b.nodes) (length b.tags) (length b.slots) accepted in
        subst (λ (k : Buffers). KnotsAt x y frame k.tags k.slots i) (sym (ap (λ (p : Outcome Built). p.buffers) made))
        (knots_left_lem x y frame i b.slots l room.in_slots b.tags room.in_tags)

    tail_is : c.tail ≡ tail_of x y frame
    unfolding curve_of
    tail_is = ap (tail_in c.tail) (sym f ∙ ap (λ (p : Outcome Built). p.answer) made)

    -- where the last period is shaped
    answered_tail : frame.hold ≡ false → TailInRecord (length x - 2) o.buffers.slots c.tail
    unfolding tail_of
    answered_tail h =
        let low = (accepted_sound x y method seam (length b.nodes) (length b.tags) (length b.slots) accepted).low in
        let room = (accepted_room x y method seam (length b.nodes) (length b.tags) (length b.slots) accepted).in_slots in
        let last : length x - 2 < length x - 1 = omega (arith, low) in
        let kept : o.buffers.slots ≡ slots_after 0 x y frame b.slots = ap (λ (p : Outcome Built). p.buffers.slots) made in
        rw (tail_is, kept, h) (sym (right_left x y frame (length x - 2) b.slots last room), sym (total_left x y frame (length x - 2) b.slots last room))

    -- where it is held
    answered_held : frame.hold ≡ true → HeldPrices (length x - 2) y o.buffers.slots
    answered_held h =
        let low = (accepted_sound x y method seam (length b.nodes) (length b.tags) (length b.slots) accepted).low in
        let room = (accepted_room x y method seam (length b.nodes) (length b.tags) (length b.slots) accepted).in_slots in
        rw (ap (λ (p : Outcome Built). p.buffers.slots) made) (held_left x y frame b.slots h low room)

    -- two points are held, and their total starts from +0.0
    answered_two_points : length x ≡ 2 → TwoPoints x y o.buffers.slots
    unfolding total_at
    answered_two_points two =
        let h : frame.hold ≡ true = rw (eq-eqb (length x) 2 two) refl in
        let (left, right) = rw two at (answered_held h) in
        let total = (answered_knots 0 (omega (arith, two))).total in
        (left, right, rw (eq-eqb (length x) 2 two) at total)

-- of `build` itself, whatever it leaves in the lent buffers
pub build_knots : Follows build.Post (λ κ a r s.
    let (xs, (ys, (method, (hold, (given, (nodes, (tags, (slots, _)))))))) = a in
    let (_, (_, (_, (_, (_, (nodes_left, (tags_left, (slots_left, _)))))))) = s in
    (c : Curve) → r ≡ Ok c → KnotsIn xs.now ys.now method hold given (buffers nodes_left.now tags_left.now slots_left.now))
build_knots κ (xs, (ys, (method, (hold, (given, (nodes, (tags, (slots, _)))))))) r (_, (_, (_, (_, (_, (nodes_left, (tags_left, (slots_left, _)))))))) p c f =
    answered_knots xs.now ys.now method hold given (buffers nodes.now tags.now slots.now) (outcome r nodes_left.now tags_left.now slots_left.now) c p f

pub build_tail : Follows build.Post (λ κ a r s.
    let (xs, (ys, (method, (hold, (given, (nodes, (tags, (slots, _)))))))) = a in
    let (_, (_, (_, (_, (_, (nodes_left, (tags_left, (slots_left, _)))))))) = s in
    (c : Curve) → r ≡ Ok c → (whole_frame (length xs.now) method hold given).hold ≡ false → TailInRecord (length xs.now - 2) slots_left.now c.tail)
build_tail κ (xs, (ys, (method, (hold, (given, (nodes, (tags, (slots, _)))))))) r (_, (_, (_, (_, (_, (nodes_left, (tags_left, (slots_left, _)))))))) p c f h =
    answered_tail xs.now ys.now method hold given (buffers nodes.now tags.now slots.now) (outcome r nodes_left.now tags_left.now slots_left.now) c p f h

pub build_held : Follows build.Post (λ κ a r s.
    let (xs, (ys, (method, (hold, (given, (nodes, (tags, (slots, _)))))))) = a in
    let (_, (_, (_, (_, (_, (nodes_left, (tags_left, (slots_left, _)))))))) = s in
    (c : Curve) → r ≡ Ok c → (whole_frame (length xs.now) method hold given).hold ≡ true → HeldPrices (length xs.now - 2) ys.now slots_left.now)
build_held κ (xs, (ys, (method, (hold, (given, (nodes, (tags, (slots, _)))))))) r (_, (_, (_, (_, (_, (nodes_left, (tags_left, (slots_left, _)))))))) p c f h =
    answered_held xs.now ys.now method hold given (buffers nodes.now tags.now slots.now) (outcome r nodes_left.now tags_left.now slots_left.now) c p f h

pub build_two_points : Follows build.Post (λ κ a r s.
    let (xs, (ys, (method, (hold, (given, (nodes, (tags, (slots, _)))))))) = a in
    let (_, (_, (_, (_, (_, (nodes_left, (tags_left, (slots_left, _)))))))) = s in
    (c : Curve) → r ≡ Ok c → length xs.now ≡ 2 → TwoPoints xs.now ys.now slots_left.now)
build_two_points κ (xs, (ys, (method, (hold, (given, (nodes, (tags, (slots, _)))))))) r (_, (_, (_, (_, (_, (nodes_left, (tags_left, (slots_left, _)))))))) p c f two =
    answered_two_points xs.now ys.now method hold given (buffers nodes.now tags.now slots.now) (outcome r nodes_left.now tags_left.now slots_left.now) c p f two

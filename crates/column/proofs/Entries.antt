-- The entries of the column of a curve just built: at its own left knot each section answers, and in a table of ordinary size one without an unusual split
-- gives back what its weight and the record before it tell.
use Rattle.std.specs.Prelude.{Ok, Option}
use Prim.Native.Nat as nat
use Prim.Native.Nat.{ℕ, suc, ◌+◌, ◌-◌, ◌*◌, ◌≤◌, ◌<◌}
use native.Mathlib.Omega.{arith}
use native.Mathlib.Nat.{add-zero}
use native.Mathlib.Numerals.{add-one}
use mathlib.Core.Bool.{Bool, true, false, cond, ◌&&◌}
use mathlib.Core.List.{List}
use mathlib.Core.Logic.{inl, inr}
use mathlib.Core.Path.{◌≡◌, refl, sym, ap, subst, ◌∙◌}
use borrow.Author.Tests.{eqb-true}
use lib.Dec.{eqb}
use lib.Ieee.{Float, lt, le}
use lib.ListN.{length, get_or, take, drop}
use Rattle.numbers.specs.Marks.{mark}
use Rattle.numbers.specs.Sizes.{slot_count}
use Rattle.numbers.specs.Words.{zero, finite}
use Rattle.numbers.proofs.Every.{and_right_false}
use Rattle.numbers.proofs.Monotone.{finite_number, not_both}
use Rattle.numbers.proofs.Totals.{Total, all_of_first, all_of_second}
use Rattle.numbers.proofs.Ways.{of_both, of_each}
use Rattle.section.specs.Section.{primitive}
use Rattle.section.specs.declared.section.Section.{Section}
use Rattle.section.specs.declared.section.Section.TheVariants as section
use Rattle.record.specs.Number.{answer_in, or_zero}
use Rattle.record.specs.Slots.{record_of, slots_of}
use Rattle.record.specs.Tag.{tag_of}
use Rattle.record.specs.Unusual.{unusual_split}
use Rattle.table.specs.Buffers.{Buffers}
use Rattle.table.specs.Sound.{Sound, Room}
use Rattle.table.specs.Table.{at, total_at}
use Rattle.table.specs.declared.ends.Frame.{Frame}
use Rattle.table.specs.declared.ends.Seam.{Seam}
use Rattle.table.specs.declared.method.ConvexMonotone.{ConvexMonotone}
use Rattle.choice.specs.Starts.{mixing, weighed, mixed_in}
use Rattle.choice.proofs.Parts.{Weighed, section_weighed, section_whole, whole_usual}
use Rattle.assembly.specs.Making.{after}
use Rattle.assembly.specs.Sections.{period_at, section_at}
use Rattle.assembly.specs.Starts.{modest, HeldOrFree, split_in, unusual_in, start_of}
use Rattle.assembly.proofs.Knots.{total_left}
use Rattle.assembly.proofs.ReadBack.{tag_read_back, slot_read_back, slots_read_back, record_read_back}
use Rattle.assembly.proofs.Starts.{total_kept, totals_finite, usual_starts}
use Rattle.curve.specs.Build.{build_verdict, whole_frame}
use Rattle.curve.specs.Curve.{with_extrapolation}
use Rattle.curve.specs.declared.curve.Curve.{Curve}
use Rattle.curve.proofs.Accepted.{accepted_sound, accepted_room}
use Rattle.query.specs.Query.{place_of, tail_section, number_in}
use Rattle.query.specs.Strip.{total_to}
use Rattle.query.proofs.ReadBack.{answering, asked_of_built}
use Rattle.query.proofs.Sides.{not_below, below}
use Rattle.query.proofs.Whole as whole
use Rattle.column.specs.Column.{column_at}
use Rattle.column.specs.Steps.{modest_table, total_before, whole_total, weighed_by, start_by, start_at, number_at, asks_at, entry_at}
use Rattle.column.proofs.Told.{told}
use Rattle.column.proofs.Knots.{knot_finite, knot_number, knot_inside, knot_order, knot_rise}

not_so : (b : Bool) → (b ≡ true → b ≡ false) → b ≡ false
not_so true h = h refl
not_so false h = refl

-- ---- a total weighed by a record's weight is what its section starts from: the weight of one part alone leaves the total as it is
module _ {t : Float} (total : Total t) (known : finite t ≡ true) (left right after : Float) where
  pub by_weight : (s : Section) → weighed_by (at (record_of s left right after) 0) t ≡ start_of t s
  unfolding record_of slots_of
  by_weight (section.EverywhereConstant s) = all_of_second total known
  by_weight (section.ConstantGrad s) = all_of_second total known
  by_weight (section.ConvexMonotone2 s) = all_of_second total known
  by_weight (section.ConvexMonotone3 s) = all_of_second total known
  by_weight (section.ConvexMonotone4 s) = all_of_second total known
  by_weight (section.ConvexMonotone4Min s) = all_of_second total known
  by_weight (section.Quadratic s) = all_of_first total known
  by_weight (section.QuadraticMin s) = all_of_first total known
  by_weight (section.Combination s) = refl

-- ---- the frame of a whole table, of two points or of more
module _ (x : List Float) (method : ConvexMonotone) (hold : Bool) (seam : Option Seam) where
  abbrev frame : Frame
  frame = whole_frame (length x) method hold seam

  whole_method : frame.method ≡ method
  whole_method = of_both (λ (f : Frame). f.method ≡ method) (eqb (length x) 2) _ _ refl refl

  whole_start : frame.start ≡ zero
  whole_start = of_both (λ (f : Frame). f.start ≡ zero) (eqb (length x) 2) _ _ refl refl

  whole_ends : HeldOrFree x frame
  whole_ends = of_each (HeldOrFree x) (eqb (length x) 2) _ _ (λ h. inl (eqb-true (length x) 2 h, refl)) (λ h. inr (refl, refl))

  whole_modest : (y : List Float) → modest_table x y method seam ≡ modest x y frame
  unfolding modest
  whole_modest y = of_both (λ (f : Frame). modest_table x y method seam ≡ modest x y f) (eqb (length x) 2) _ _ refl refl

module _ (x y : List Float) (method : ConvexMonotone) (hold : Bool) (seam : Option Seam) (b : Buffers) (accepted : build_verdict x y method seam b ≡ Ok tt) where
  abbrev c : Curve
  c = whole.curve x y method hold seam b accepted

  abbrev whole_frame_lem : Frame
  whole_frame_lem = frame x method hold seam

  abbrev left : Buffers
  left = after 0 x y whole_frame_lem b

  sound : Sound x y method
  sound = accepted_sound x y method seam (length b.nodes) (length b.tags) (length b.slots) accepted

  spare : Room (length x) (length b.nodes) (length b.tags) (length b.slots)
  spare = accepted_room x y method seam (length b.nodes) (length b.tags) (length b.slots) accepted

  -- the total up to knot k: of the section that answers there
  abbrev pub total : ℕ → Float
  total k = primitive (answering x y whole_frame_lem c (at x k)) (at x k)

  pub asked_at_lem : (k : ℕ) (allow : Bool) → k < length x → total_to x (with_extrapolation c allow) left.tags left.slots (at x k) ≡ Ok (mark (total k))
  asked_at_lem k allow l =
      asked_of_built x y whole_frame_lem method seam b (with_extrapolation c allow) (at x k) accepted
      (knot_number x sound.knots sound.rise k l) (knot_inside x sound.knots sound.rise (with_extrapolation c allow) k l) (λ s. primitive s (at x k))

  -- which is the column's entry
  pub entry_is : (k : ℕ) → k < length x → column_at x c left.tags left.slots k ≡ total k
  entry_is k l = ap number_in (asked_at_lem k false l)

  -- ---- at the last knot the tail answers
  pub last_entry : (k : ℕ) → k + 1 ≡ length x → primitive (tail_section c) (at x k) ≡ column_at x c left.tags left.slots k
  last_entry k e =
      let same : length x - 1 ≡ k = omega (arith, e) in
      let at-end : le (at x (length x - 1)) (at x k) ≡ true = ap (λ (j : ℕ). le (at x j) (at x k)) same ∙ knot_order x sound.knots sound.rise k k (omega arith) (omega (arith, e)) in
      sym (entry_is k (omega (arith, e)) ∙ ap (λ (t : Bool). primitive (cond t (tail_section c) (section_at x y whole_frame_lem (place_of x (at x k)))) (at x k)) at-end)

  module _ (i : ℕ) (l : i < length x - 1) where
    abbrev s : Section
    s = section_at x y whole_frame_lem i

    -- ---- at any other its own section does
    own_place : place_of x (at x i) ≡ i
    own_place =
        let f = knot_finite x sound.knots sound.rise i (omega arith) in
        let up = below x (at x i) (i + 1) (omega arith) (knot_rise x sound.knots sound.rise i (i + 1) (omega arith) (omega arith)) in
        let down =
        not_below x (at x i) sound.rise i (omega arith) (not_so (lt (at x i) (at x i)) (λ h. not_both (at x i) (at x i) f f h (finite_number (at x i) f))) in
        omega (arith, up, down)

    before_end : le (at x (length x - 1)) (at x i) ≡ false
    before_end =
        let f = knot_finite x sound.knots sound.rise i (omega arith) in
        let g = knot_finite x sound.knots sound.rise (length x - 1) (omega arith) in
        not_so (le (at x (length x - 1)) (at x i))
        (λ h. not_both (at x i) (at x (length x - 1)) f g (knot_rise x sound.knots sound.rise i (length x - 1) l (omega arith)) h)

    own_entry : column_at x c left.tags left.slots i ≡ primitive s (at x i)
    own_entry =
        entry_is i (omega arith)
        ∙ ap (λ (t : Bool). primitive (cond t (tail_section c) (section_at x y whole_frame_lem (place_of x (at x i)))) (at x i)) before_end
        ∙ ap (λ (j : ℕ). primitive (section_at x y whole_frame_lem j) (at x i)) own_place

    -- ---- so the number of its record is the entry
    pub number_here : number_at x left.tags left.slots i ≡ column_at x c left.tags left.slots i
    number_here =
        ap (λ (f : Option Section). or_zero (answer_in (λ k. primitive k (at x i)) f)) (record_read_back x y whole_frame_lem i b.tags b.slots l spare.in_tags spare.in_slots)
        ∙ sym own_entry

    -- ---- what its record tells
    tag_here : get_or left.tags i 0 ≡ tag_of s
    tag_here = tag_read_back x y whole_frame_lem i b.tags l spare.in_tags

    asks_here : asks_at x left.tags left.slots i ≡ unusual_in (at x i) s
    asks_here =
        ap (λ (t : ℕ). unusual_split t (take slot_count (drop (slot_count * i) left.slots)) (at x i)) tag_here
        ∙ ap (λ (r : List Float). unusual_split (tag_of s) r (at x i)) (slots_read_back x y whole_frame_lem i b.slots l spare.in_slots)
        ∙ told _ _ _ (at x i) s

    -- a held section is not split and has one part
    free_here : method.force_positive ≡ false → split_in s ≡ false
    unfolding section_at
    free_here h =
        of_both (λ (k : Section). split_in k ≡ false) (whole_frame_lem.hold && eqb i (length x - 2)) _ _ refl
        (section_whole whole_frame_lem.method (ap (λ (m : ConvexMonotone). m.force_positive) (whole_method x method hold seam) ∙ h) (period_at x y whole_frame_lem i))

    weighed_here : Weighed method (total_at x y whole_frame_lem i) s
    unfolding section_at
    weighed_here =
        subst (λ (m : ConvexMonotone). Weighed m (total_at x y whole_frame_lem i) s) (whole_method x method hold seam)
        (of_both (Weighed whole_frame_lem.method (total_at x y whole_frame_lem i)) (whole_frame_lem.hold && eqb i (length x - 2)) _ _
        (rw (and_right_false (mixing whole_frame_lem.method)))
        (section_weighed whole_frame_lem.method (total_at x y whole_frame_lem i) (period_at x y whole_frame_lem i)))

  -- ---- the total before it
  before_here : (i : ℕ) → i < length x - 1 → total_before left.slots i ≡ total_at x y whole_frame_lem i
  unfolding total_at
  before_here nat.zero l = sym (whole_start x method hold seam)
  before_here (suc i) l = total_left x y whole_frame_lem i b.slots (omega arith) spare.in_slots ∙ ap (total_at x y whole_frame_lem) (add-one i)

  module _ (test : modest_table x y method seam ≡ true) (counted : finite (whole_total x left.slots) ≡ true) (i : ℕ) (l : i < length x - 1) where
    -- the whole total is finite, and so is each before it
    finite_here : finite (total_at x y whole_frame_lem i) ≡ true
    finite_here =
        let last : length x - 2 < length x - 1 = omega (arith, sound.low) in
        let same : length x - 2 + 1 ≡ i + (length x - 1 - i) = omega (arith, sound.low) in
        totals_finite x y whole_frame_lem i (length x - 1 - i)
        (ap (λ (k : ℕ). finite (total_at x y whole_frame_lem k)) (sym same)
        ∙ ap finite (sym (total_left x y whole_frame_lem (length x - 2) b.slots last spare.in_slots))
        ∙ counted)

    -- the total weighed by the weight of the record
    weight_here : weighed_by (at left.slots (slot_count * i)) (total_at x y whole_frame_lem i) ≡ start_of (total_at x y whole_frame_lem i) (section_at x y whole_frame_lem i)
    weight_here =
        ap (λ (k : ℕ). weighed_by (at left.slots k) (total_at x y whole_frame_lem i)) (sym (add-zero (slot_count * i)))
        ∙ ap (λ (w : Float). weighed_by w (total_at x y whole_frame_lem i)) (slot_read_back x y whole_frame_lem i 0 b.slots l (omega arith) spare.in_slots)
        ∙ by_weight (total_kept x y whole_frame_lem (whole_start x method hold seam) i) finite_here _ _ _ (section_at x y whole_frame_lem i)

    by_mixing : (mixed : Bool) → mixing method ≡ mixed → start_by mixed left.slots i ≡ start_of (total_at x y whole_frame_lem i) (section_at x y whole_frame_lem i)
    by_mixing true e = ap (weighed_by (at left.slots (slot_count * i))) (before_here i l) ∙ weight_here
    by_mixing false e =
        before_here i l
        ∙ sym (weighed_here i l ∙ ap (λ (m : Bool). cond (m && mixed_in (section_at x y whole_frame_lem i)) (weighed method (total_at x y whole_frame_lem i)) (total_at x y whole_frame_lem i)) e)

    start_here : unusual_in (at x i) (section_at x y whole_frame_lem i) ≡ false → start_at method left.slots i ≡ column_at x c left.tags left.slots i
    start_here usual =
        by_mixing (mixing method) refl
        ∙ sym (usual_starts x y whole_frame_lem sound.rise (whole_start x method hold seam) (whole_ends x method hold seam) (sym (whole_modest x method hold seam y) ∙ test) i l usual)
        ∙ sym (own_entry i l)

    -- with positivity a section with an unusual split is asked, and without it none is split
    by_split : (positive unusual : Bool) → method.force_positive ≡ positive → unusual_in (at x i) (section_at x y whole_frame_lem i) ≡ unusual →
        cond (positive && unusual) (number_at x left.tags left.slots i) (start_at method left.slots i) ≡ column_at x c left.tags left.slots i
    by_split true true p q = number_here i l
    by_split true false p q = start_here q
    by_split false unusual p q = start_here (whole_usual (at x i) (section_at x y whole_frame_lem i) (free_here i l p))

    pub section_entry : entry_at method x left.tags left.slots i ≡ column_at x c left.tags left.slots i
    section_entry =
        ap (λ (t : Bool). cond (method.force_positive && t) (number_at x left.tags left.slots i) (start_at method left.slots i)) (asks_here i l)
        ∙ by_split method.force_positive (unusual_in (at x i) (section_at x y whole_frame_lem i)) refl refl

-- Records in a row: what one more section adds to the tags, the slots and the total.
use Prim.Native.Nat.{ℕ, ◌+◌, ◌-◌, ◌*◌, ◌/◌, ◌%◌, ◌<◌}
use native.Mathlib.Omega.{arith}
use native.Mathlib.Nat.{zero-add}
use native.Mathlib.Numerals.{add-one}
use mathlib.Core.Bool.{true, false, ◌&&◌}
use mathlib.Core.List.{List}
use mathlib.Core.Path.{◌≡◌, refl, sym, ap, ◌∙◌}
use lib.Dec.{eqb}
use lib.Ieee.{Float, nan}
use lib.ListN.{length, get_or, set}
use Rattle.numbers.specs.Sizes.{field_count, slot_count}
use Rattle.numbers.specs.Words.{◌⊕◌, ◌⊖◌, ◌⊗◌}
use Rattle.numbers.specs.Overlay.{overlay}
use Rattle.numbers.proofs.Overlay.{overlay_more, overlay_same, overlay_join}
use Rattle.section.specs.declared.section.Section.{Section}
use Rattle.section.specs.Section.{value}
use Rattle.record.specs.Slots.{slots_of, record_of}
use Rattle.record.specs.Knots.{left_price, right_price, total_after}
use Rattle.record.proofs.RoundTrip.{field_in, left_in, right_in, total_in}
use Rattle.record.specs.Tag.{tag_of}
use Rattle.table.specs.Table.{at, total_at}
use Rattle.table.specs.declared.ends.Frame.{Frame}
use Rattle.assembly.specs.Sections.{shaped_at, held_at, section_at, tag_at, record_for, slot_at}

-- a record is written in four steps: its section's fields, then the price at the left knot, the one at the right knot and the total
pub record_written : (s : Section) (left right total : Float) (p : ℕ) (old fields : List Float) → fields ≡ overlay p field_count (λ k. get_or (slots_of s) k nan) old →
    set (set (set fields (p + left_price) (value s left)) (p + right_price) (value s right)) (p + total_after) total ≡ overlay p slot_count (λ k. get_or (record_of s left right total) k nan) old
record_written s left right total p old fields e =
    let f : ℕ → Float = λ k. get_or (record_of s left right total) k nan in
    let own : fields ≡ overlay p field_count f old = e ∙ overlay_same p field_count _ f old (λ k l. sym (field_in s left right total k l)) in
    let first = overlay_more p field_count f old fields (p + left_price) (value s left) own refl (sym (left_in s left right total)) in
    let second = overlay_more p right_price f old _ (p + right_price) (value s right) first refl (sym (right_in s left right total)) in
    overlay_more p total_after f old _ (p + total_after) total second refl (sym (total_in s left right total))

module _ (x y : List Float) (frame : Frame) where
  pub tag_more : (i : ℕ) (s : Section) (old tags : List ℕ) → tags ≡ overlay 0 i (tag_at x y frame) old → s ≡ section_at x y frame i →
      set tags i (tag_of s) ≡ overlay 0 (i + 1) (tag_at x y frame) old
  tag_more i s old tags e f = overlay_more 0 i (tag_at x y frame) old tags i (tag_of s) e (sym (zero-add i)) (ap tag_of f)

  -- slot k of record i
  pub slot_here : (i k : ℕ) → k < slot_count → slot_at x y frame (slot_count * i + k) ≡ get_or (record_for x y frame i) k nan
  slot_here i k l =
      let d : (slot_count * i + k) / slot_count ≡ i = omega arith in
      let m : (slot_count * i + k) % slot_count ≡ k = omega arith in
      ap (λ (j : ℕ). get_or (record_for x y frame j) ((slot_count * i + k) % slot_count) nan) d ∙ ap (λ (j : ℕ). get_or (record_for x y frame i) j nan) m

  slot_same : (i : ℕ) (written : List Float) → written ≡ record_for x y frame i → (k : ℕ) → k < slot_count → get_or written k nan ≡ slot_at x y frame (slot_count * i + k)
  slot_same i written f k l = ap (λ (r : List Float). get_or r k nan) f ∙ sym (slot_here i k l)

  -- the record that is written of a section and the total after it
  pub record_for_lem : (i : ℕ) (s : Section) (total : Float) → s ≡ section_at x y frame i → total ≡ total_at x y frame (i + 1) →
      record_of s (at x i) (at x (i + 1)) total ≡ record_for x y frame i
  record_for_lem i s total e f = rw (e, f)

  pub slots_more : (i : ℕ) (written old slots out : List Float) → slots ≡ overlay 0 (slot_count * i) (slot_at x y frame) old →
      out ≡ overlay (slot_count * i) slot_count (λ k. get_or written k nan) slots → written ≡ record_for x y frame i →
      out ≡ overlay 0 (slot_count * (i + 1)) (slot_at x y frame) old
  slots_more i written old slots out e g f =
      let w : slot_count * i + slot_count ≡ slot_count * (i + 1) = omega arith in
      g
      ∙ overlay_same (slot_count * i) slot_count (λ k. get_or written k nan) (λ k. slot_at x y frame (slot_count * i + k)) slots (slot_same i written f)
      ∙ ap (λ (l : List Float). overlay (slot_count * i) slot_count (λ k. slot_at x y frame (slot_count * i + k)) l) e
      ∙ ap (λ (p : ℕ). overlay p slot_count (λ k. slot_at x y frame (slot_count * i + k)) (overlay 0 (slot_count * i) (slot_at x y frame) old)) (sym (zero-add (slot_count * i)))
      ∙ overlay_join 0 (slot_count * i) slot_count (slot_at x y frame) old
      ∙ ap (λ (n : ℕ). overlay 0 n (slot_at x y frame) old) w

  pub total_more : (i : ℕ) (total : Float) → total ≡ total_at x y frame i →
      total ⊕ at y (i + 1) ⊗ (at x (i + 1) ⊖ at x i) ≡ total_at x y frame (i + 1)
  unfolding total_at
  total_more i total e = ap (λ (t : Float). t ⊕ at y (i + 1) ⊗ (at x (i + 1) ⊖ at x i)) e ∙ sym (ap (λ (n : ℕ). total_at x y frame n) (add-one i))

  -- a period that is held, and one that is not
  pub held_here : (i : ℕ) → frame.hold && eqb i (length x - 2) ≡ true → section_at x y frame i ≡ held_at x y frame i
  unfolding section_at
  held_here i h = simp h

  pub shaped_here : (i : ℕ) → frame.hold && eqb i (length x - 2) ≡ false → section_at x y frame i ≡ shaped_at x y frame i
  unfolding section_at
  shaped_here i h = simp h

-- What is written, is read: the records of a table give back its sections.
use Rattle.std.specs.Prelude.{Some}
use Prim.Native.Nat.{ℕ, ◌+◌, ◌-◌, ◌*◌, ◌≤◌, ◌<◌}
use native.Mathlib.Omega.{arith}
use native.Mathlib.Nat.{zero-add}
use mathlib.Core.List.{List}
use mathlib.Core.Path.{◌≡◌, sym, ap, ◌∙◌}
use lib.Ieee.{Float, nan}
use lib.ListN.{length, take, drop, get_or, length-drop}
use lib.Seq.{length-take-le, get_or-take, get_or-drop, ext_get_or}
use Rattle.numbers.specs.Sizes.{slot_count}
use Rattle.numbers.proofs.Overlay.{overlay_inside, length_overlay}
use Rattle.record.specs.Tag.{tag_of}
use Rattle.record.specs.Reading.{read_section, record_at}
use Rattle.record.proofs.RoundTrip.{record_length, record_back}
use Rattle.table.specs.declared.ends.Frame.{Frame}
use Rattle.assembly.specs.Making.{tags_after, slots_after}
use Rattle.assembly.specs.Sections.{section_at, tag_at, record_for, slot_at}
use Rattle.assembly.proofs.Rows.{slot_here}

-- the part of a list that holds another list, place by place, is that list
part_is : (big small : List Float) (p n : ℕ) → length small ≡ n → p + n ≤ length big →
    ((k : ℕ) → k < n → get_or big (p + k) nan ≡ get_or small k nan) → take n (drop p big) ≡ small
part_is big small p n e r h =
    let room : n ≤ length (drop p big) = rw length-drop (omega arith) in
    let size : length (take n (drop p big)) ≡ n = length-take-le n (drop p big) room in
    ext_get_or nan (take n (drop p big)) small (size ∙ sym e)
    (λ (k : ℕ) (l : k < length (take n (drop p big))).
    let m : k < n = omega arith in get_or-take n (drop p big) k nan m ∙ get_or-drop p big k nan ∙ h k m)

module _ (x y : List Float) (frame : Frame) where
  -- the tag that is written for a section
  pub tag_read_back : (i : ℕ) (tags : List ℕ) → i < length x - 1 → length x - 1 ≤ length tags →
      get_or (tags_after 0 x y frame tags) i 0 ≡ tag_of (section_at x y frame i)
  tag_read_back i tags l h =
      ap (λ (j : ℕ). get_or (tags_after 0 x y frame tags) j 0) (sym (zero-add i))
      ∙ overlay_inside 0 (length x - 1) (tag_at x y frame) tags i 0 l (omega arith)

  -- each slot that is written for it
  pub slot_read_back : (i k : ℕ) (slots : List Float) → i < length x - 1 → k < slot_count → slot_count * (length x - 1) ≤ length slots →
      get_or (slots_after 0 x y frame slots) (slot_count * i + k) nan ≡ get_or (record_for x y frame i) k nan
  slot_read_back i k slots l m h =
      ap (λ (j : ℕ). get_or (slots_after 0 x y frame slots) j nan) (sym (zero-add (slot_count * i + k)))
      ∙ overlay_inside 0 (slot_count * (length x - 1)) (slot_at x y frame) slots (slot_count * i + k) nan (omega arith) (omega arith)
      ∙ slot_here x y frame i k m

  -- all of them
  pub slots_read_back : (i : ℕ) (slots : List Float) → i < length x - 1 → slot_count * (length x - 1) ≤ length slots →
      take slot_count (drop (slot_count * i) (slots_after 0 x y frame slots)) ≡ record_for x y frame i
  slots_read_back i slots l h =
      let same : length (slots_after 0 x y frame slots) ≡ length slots = length_overlay 0 (slot_count * (length x - 1)) (slot_at x y frame) slots in
      part_is (slots_after 0 x y frame slots) (record_for x y frame i) (slot_count * i) slot_count (record_length (section_at x y frame i) _ _ _) (omega arith)
      (λ (k : ℕ) (m : k < slot_count). slot_read_back i k slots l m h)

  -- each record of a built curve is read back as the section it was written from
  pub record_read_back : (i : ℕ) (tags : List ℕ) (slots : List Float) → i < length x - 1 → length x - 1 ≤ length tags → slot_count * (length x - 1) ≤ length slots →
      record_at (tags_after 0 x y frame tags) (slots_after 0 x y frame slots) i ≡ Some (section_at x y frame i)
  record_read_back i tags slots l h g =
      ap (λ (t : ℕ). read_section t (take slot_count (drop (slot_count * i) (slots_after 0 x y frame slots)))) (tag_read_back i tags l h)
      ∙ ap (λ (s : List Float). read_section (tag_of (section_at x y frame i)) s) (slots_read_back i slots l g)
      ∙ record_back (section_at x y frame i) _ _ _

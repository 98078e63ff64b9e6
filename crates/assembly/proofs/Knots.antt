-- 02, K9: what the three last slots of each record hold, as the records are left in buffers that have room for them.
use Prim.Native.Nat.{ℕ, ◌+◌, ◌-◌, ◌*◌, ◌≤◌, ◌<◌}
use native.Mathlib.Omega.{arith}
use mathlib.Core.Bool.{true, ◌&&◌}
use mathlib.Core.List.{List}
use mathlib.Core.Path.{◌≡◌, refl, sym, subst, ◌∙◌}
use borrow.Author.Tests.{eq-eqb}
use lib.Dec.{eqb}
use lib.Ieee.{Float}
use lib.ListN.{length}
use Rattle.numbers.specs.Sizes.{slot_count}
use Rattle.numbers.proofs.Ways.{of_both}
use Rattle.section.specs.Section.{value}
use Rattle.record.specs.Knots.{left_price, right_price, total_after}
use Rattle.record.proofs.RoundTrip.{left_in, right_in, total_in}
use Rattle.table.specs.Table.{at, total_at}
use Rattle.table.specs.declared.ends.Frame.{Frame}
use Rattle.choice.specs.Totals.{StartsFrom}
use Rattle.choice.proofs.Totals.{section_starts}
use Rattle.assembly.specs.Knots.{KnotsAt, HeldPrices}
use Rattle.assembly.specs.Making.{tags_after, slots_after}
use Rattle.assembly.specs.Sections.{period_at, section_at}
use Rattle.assembly.proofs.ReadBack.{slot_read_back, record_read_back}

-- the section of a period starts from the total before it, held or shaped
starts_here : (x y : List Float) (frame : Frame) (i : ℕ) → StartsFrom (total_at x y frame i) (section_at x y frame i)
unfolding section_at
starts_here x y frame i =
    of_both (StartsFrom (total_at x y frame i)) (frame.hold && eqb i (length x - 2)) _ _ refl (section_starts frame.method (period_at x y frame i))

module _ (x y : List Float) (frame : Frame) (i : ℕ) (slots : List Float) (l : i < length x - 1) (room : slot_count * (length x - 1) ≤ length slots) where
  pub left_left : at (slots_after 0 x y frame slots) (slot_count * i + left_price) ≡ value (section_at x y frame i) (at x i)
  left_left = slot_read_back x y frame i left_price slots l (omega arith) room ∙ left_in _ _ _ _

  pub right_left : at (slots_after 0 x y frame slots) (slot_count * i + right_price) ≡ value (section_at x y frame i) (at x (i + 1))
  right_left = slot_read_back x y frame i right_price slots l (omega arith) room ∙ right_in _ _ _ _

  pub total_left : at (slots_after 0 x y frame slots) (slot_count * i + total_after) ≡ total_at x y frame (i + 1)
  total_left = slot_read_back x y frame i total_after slots l (omega arith) room ∙ total_in _ _ _ _

  pub knots_left_lem : (tags : List ℕ) → length x - 1 ≤ length tags → KnotsAt x y frame (tags_after 0 x y frame tags) (slots_after 0 x y frame slots) i
  knots_left_lem tags more = record {
    section = section_at x y frame i;
    held = record_read_back x y frame i tags slots l more room;
    starts = starts_here x y frame i;
    left = left_left;
    right = right_left;
    total = total_left;
  }

-- a held section is worth its average wherever it is asked
held_price : (x y : List Float) (frame : Frame) (q : Float) → frame.hold ≡ true → value (section_at x y frame (length x - 2)) q ≡ at y (length x - 2 + 1)
unfolding section_at value
held_price x y frame q h = rw (h, eq-eqb (length x - 2) (length x - 2) refl) refl

pub held_left : (x y : List Float) (frame : Frame) (slots : List Float) → frame.hold ≡ true → 2 ≤ length x → slot_count * (length x - 1) ≤ length slots →
    HeldPrices (length x - 2) y (slots_after 0 x y frame slots)
held_left x y frame slots h low room =
    let last : length x - 2 < length x - 1 = omega (arith, low) in (
      left_left x y frame (length x - 2) slots last room ∙ held_price x y frame _ h,
      right_left x y frame (length x - 2) slots last room ∙ held_price x y frame _ h,
    )

-- the total in a record is the one that the next record's section starts from
pub total_carried : (x y : List Float) (frame : Frame) (tags : List ℕ) (slots : List Float) (i : ℕ) → KnotsAt x y frame tags slots i → (next : KnotsAt x y frame tags slots (i + 1)) →
    StartsFrom (at slots (slot_count * i + total_after)) next.section
total_carried x y frame tags slots i here next = subst (λ (total : Float). StartsFrom total next.section) (sym here.total) next.starts

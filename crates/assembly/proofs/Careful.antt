-- 02, K3: in every mode but the original's no split parabola in the records of a table is longer than its period.
use Prim.Native.Nat as nat
use Prim.Native.Nat.{ℕ, suc, ◌+◌, ◌-◌, ◌*◌, ◌≤◌, ◌<◌}
use native.Mathlib.Omega.{arith}
use mathlib.Core.Bool.{true, ◌&&◌}
use mathlib.Core.List.{List}
use mathlib.Core.Path.{◌≡◌, refl, ap}
use lib.Dec.{eqb}
use lib.Ieee.{Float, lt, le}
use lib.ListN.{length}
use Rattle.numbers.specs.Sizes.{slot_count}
use Rattle.numbers.specs.Words.{◌⊕◌, ◌⊖◌, ◌⊗◌, finite, zero}
use Rattle.numbers.proofs.Every.{all_at}
use Rattle.numbers.proofs.Sums.{length_from_zero}
use Rattle.numbers.proofs.Ways.{of_both}
use Rattle.section.specs.declared.section.Section.{Section}
use Rattle.table.specs.Check.{all_finite, rising}
use Rattle.table.specs.Method.{with_split}
use Rattle.table.specs.Table as nodes
use Rattle.table.specs.Table.{at, node_at, first_node, last_node, middle_at, second_last, total_at}
use Rattle.table.specs.declared.ends.Frame.{Frame}
use Rattle.table.specs.declared.method.Split.{Split}
use Rattle.table.specs.declared.method.Split.TheVariants as split
use Rattle.choice.specs.Careful.{within}
use Rattle.choice.proofs.Safe as safe
use Rattle.assembly.specs.Careful.{WithinAt}
use Rattle.assembly.specs.Making.{tags_after, slots_after}
use Rattle.assembly.specs.Sections.{period_at, shaped_at, held_at, section_at}
use Rattle.assembly.proofs.ReadBack.{record_read_back}

module _ (x y : List Float) (frame : Frame) (knots : all_finite x ≡ true) (rise : rising x ≡ true) (other : frame.method.split ≡ split.Original → ⊥) where
  -- the length of a period between two knots is not below 0
  period_from_zero : (i : ℕ) → i < length x - 1 → le zero (at x (i + 1) ⊖ at x i) ≡ true
  unfolding all_finite rising
  period_from_zero i l =
      let known : (k : ℕ) → k < length x → finite (at x k) ≡ true = all_at (length x) (λ k. finite (at x k)) knots in
      length_from_zero (at x i) (at x (i + 1)) (known i (omega arith)) (known (i + 1) (omega arith)) (all_at (length x - 1) (λ k. lt (at x k) (at x (k + 1))) rise i l)

  shaped_within : (i : ℕ) → i < length x - 1 → within (at x (i + 1) ⊖ at x i) (shaped_at x y frame i) ≡ true
  shaped_within i l = safe.section_within frame.method (period_at x y frame i) other (period_from_zero i l)

  held_within : (i : ℕ) → within (at x (i + 1) ⊖ at x i) (held_at x y frame i) ≡ true
  unfolding within
  held_within i = refl

  section_within : (i : ℕ) → i < length x - 1 → within (at x (i + 1) ⊖ at x i) (section_at x y frame i) ≡ true
  unfolding section_at
  section_within i l =
      of_both (λ (s : Section). within (at x (i + 1) ⊖ at x i) s ≡ true) (frame.hold && eqb i (length x - 2)) _ _ (held_within i) (shaped_within i l)

  -- as the records are left in buffers that have room for them
  pub records_within : (i : ℕ) (tags : List ℕ) (slots : List Float) → i < length x - 1 → length x - 1 ≤ length tags → slot_count * (length x - 1) ≤ length slots →
      WithinAt x (tags_after 0 x y frame tags) (slots_after 0 x y frame slots) i
  records_within i tags slots l t s = record { section = section_at x y frame i; held = record_read_back x y frame i tags slots l t s; no_longer = section_within i l }

-- The mode moves no node and no total: what changes is the shape of sections between them.
abbrev pub in_mode : Split → Frame → Frame
in_mode mode frame =
    record { method = with_split mode frame.method; hold = frame.hold; seam = frame.seam; left = frame.left; right = frame.right; start = frame.start }

module _ (mode : Split) (x y : List Float) (frame : Frame) where
  pub same_node : (i : ℕ) → node_at x y (in_mode mode frame) i ≡ node_at x y frame i
  unfolding node_at first_node last_node middle_at nodes.second second_last
  same_node i = refl

  pub same_total : (i : ℕ) → total_at x y (in_mode mode frame) i ≡ total_at x y frame i
  unfolding total_at
  same_total nat.zero = refl
  same_total (suc i) = ap (λ (t : Float). t ⊕ at y (i + 1) ⊗ (at x (i + 1) ⊖ at x i)) (same_total i)

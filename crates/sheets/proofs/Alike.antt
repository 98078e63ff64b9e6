-- A sheet with the whole's nodes at its ends and the whole's total before it: its nodes, totals and sections are those of the whole at its places.
use Rattle.std.specs.Prelude.{None, Some}
use Prim.Native.Nat as nat
use Prim.Native.Nat.{ℕ, suc, ◌+◌, ◌-◌, ◌*◌, ◌/◌, ◌%◌, ◌≤◌, ◌<◌}
use native.Mathlib.Omega.{arith}
use native.Mathlib.Nat.{add-zero, add-suc}
use mathlib.Core.List.{List}
use mathlib.Core.Logic.{⊎_elim}
use mathlib.Core.Path.{◌≡◌, refl, sym, ap, ◌∙◌}
use borrow.Author.Tests.{eq-eqb, ne_eqb}
use lib.Ieee.{Float, nan}
use lib.ListN.{length, get_or, drop, length-drop}
use lib.Seq.{get_or-take, get_or-drop, length-take-le}
use Rattle.numbers.specs.Sizes.{slot_count}
use Rattle.numbers.specs.Words.{zero}
use Rattle.numbers.proofs.Ways.{lt_or_le}
use Rattle.record.specs.Tag.{tag_of}
use Rattle.table.specs.Table.{at, outer, or_given, middle_at, second, second_last, first_node, last_node, node_at, total_at, End}
use Rattle.table.specs.declared.method.ConvexMonotone.{ConvexMonotone}
use Rattle.table.specs.declared.ends.Frame.{Frame}
use Rattle.choice.specs.Choice.{section_of}
use Rattle.assembly.specs.Sections.{period_at, section_at, tag_at, record_for, slot_at, tail_of}
use Rattle.assembly.proofs.Places.{node_first, node_last, node_middle}
use Rattle.sheets.specs.Sheet.{sheet_frame}
use Rattle.sheets.specs.Pieces.{Piece, part, whole}
use Rattle.sheets.specs.Steps.{Fair}

module _ {A : Type 0} (p : Piece) (xs : List A) (h : p.to < length xs) where
  pub part_length : length (part p xs) ≡ p.to + 1 - p.from
  part_length = length-take-le (p.to + 1 - p.from) (drop p.from xs) (rw (length-drop p.from xs) (omega arith))

pub part_at : {A : Type 0} (p : Piece) (xs : List A) (d : A) (k : ℕ) → k < p.to + 1 - p.from → get_or (part p xs) k d ≡ get_or xs (p.from + k) d
part_at p xs d k h = get_or-take (p.to + 1 - p.from) (drop p.from xs) k d h ∙ get_or-drop p.from xs k d

module _ (x y : List Float) (method : ConvexMonotone) (n : 3 ≤ length x) (same : length x ≡ length y) (p : Piece) (fair : Fair x y method p) where
  abbrev G : Frame
  G = whole method

  abbrev F : Frame
  F = sheet_frame method p.left p.right p.start

  abbrev a : ℕ
  a = p.from

  abbrev m : ℕ
  m = p.to - p.from

  below : p.to < length x
  below = let i = fair.inside in omega (arith, i)

  below_y : p.to < length y
  below_y = let i = below in omega (arith, i, same)

  pub points : length (part p x) ≡ m + 1
  points = let r = fair.rising in part_length p x below ∙ omega (arith, r)

  x_at : (k j : ℕ) → k ≤ m → j ≡ a + k → at (part p x) k ≡ at x j
  x_at k j h e = let r = fair.rising in part_at p x nan k (omega (arith, r)) ∙ ap (at x) (sym e)

  y_at : (k j : ℕ) → k ≤ m → j ≡ a + k → at (part p y) k ≡ at y j
  y_at k j h e = let r = fair.rising in part_at p y nan k (omega (arith, r)) ∙ ap (at y) (sym e)

  middle_same : (k j : ℕ) → 0 < k → k < m → j ≡ a + k → middle_at (part p x) (part p y) F k ≡ middle_at x y G j
  unfolding middle_at
  middle_same k j l h e =
      rw (x_at (k - 1) (j - 1) (omega arith) (omega arith), x_at k j (omega arith) e, x_at (k + 1) (j + 1) (omega arith) (omega arith), y_at k j (omega arith) e, y_at (k + 1) (j + 1) (omega arith) (omega arith))

  -- the first node, where it is free
  second_same : a ≡ 0 → second (part p x) (part p y) F ≡ node_at x y G 1
  unfolding second
  second_same e =
      ⊎_elim
      (λ (h : 1 < m).
      let q : length (part p x) ≡ 2 → ⊥ = λ z. (let w = points in omega (arith, w)) in
      simp (ne_eqb (length (part p x)) 2 q) (middle_same 1 1 (omega arith) h (omega arith) ∙ sym (node_middle x y G 1 (omega arith) (omega arith))))
      (λ (h : m ≤ 1).
      let r = fair.rising in
      let one : p.to ≡ 1 = omega (arith, r) in
      let q : length (part p x) ≡ 2 = (let w = points in omega (arith, w, r)) in
      simp (eq-eqb (length (part p x)) 2 q)
      (⊎_elim
      (λ (z : (p.to ≡ length x - 1) × (p.right ≡ None)). absurd (let w = z.0 in omega (arith, w)))
      (λ (z : (p.to < length x - 1) × (p.right ≡ Some (node_at x y G p.to))). ap (λ (r : End). or_given r zero) z.1 ∙ ap (node_at x y G) one)
      fair.right_end))
      (lt_or_le 1 m)

  second_whole : second x y G ≡ node_at x y G 1
  unfolding second
  second_whole = let q : length x ≡ 2 → ⊥ = λ z. omega (arith, n) in simp (ne_eqb (length x) 2 q) (sym (node_middle x y G 1 (omega arith) (omega (arith, n))))

  first_same : node_at (part p x) (part p y) F 0 ≡ node_at x y G a
  unfolding first_node
  first_same =
      node_first (part p x) (part p y) F
      ∙ ⊎_elim
      (λ (z : (p.from ≡ 0) × (p.left ≡ None)).
      let e = z.0 in
      ap (λ (l : End). or_given l (outer method.force_positive (at (part p y) 1) (second (part p x) (part p y) F))) z.1
      ∙ ap (λ (v : Float). outer method.force_positive v (second (part p x) (part p y) F)) (y_at 1 1 (let r = fair.rising in omega (arith, r)) (omega (arith, e)))
      ∙ ap (outer method.force_positive (at y 1)) (second_same e ∙ sym second_whole)
      ∙ sym (node_first x y G)
      ∙ ap (node_at x y G) (sym e))
      (λ (z : (0 < p.from) × (p.left ≡ Some (node_at x y G p.from))). ap (λ (l : End). or_given l (outer method.force_positive (at (part p y) 1) (second (part p x) (part p y) F))) z.1)
      fair.left_end

  -- the last node, where it is free
  second_last_same : p.to ≡ length x - 1 → second_last (part p x) (part p y) F ≡ node_at x y G (length x - 2)
  unfolding second_last
  second_last_same e =
      ⊎_elim
      (λ (h : 1 < m).
      let w = points in
      let q : length (part p x) ≡ 2 → ⊥ = λ z. omega (arith, w) in
      simp (ne_eqb (length (part p x)) 2 q)
      (middle_same (length (part p x) - 2) (length x - 2) (omega (arith, w)) (omega (arith, w)) (omega (arith, w, n, e))
      ∙ sym (node_middle x y G (length x - 2) (omega (arith, n)) (omega (arith, n)))))
      (λ (h : m ≤ 1).
      let r = fair.rising in
      let w = points in
      let q : length (part p x) ≡ 2 = omega (arith, w, r) in
      simp (eq-eqb (length (part p x)) 2 q)
      (⊎_elim
      (λ (z : (p.from ≡ 0) × (p.left ≡ None)). absurd (let v = z.0 in omega (arith, v, n, e)))
      (λ (z : (0 < p.from) × (p.left ≡ Some (node_at x y G p.from))).
      ap (λ (l : End). or_given l zero) z.1 ∙ ap (node_at x y G) (omega (arith, r, e, n)))
      fair.left_end))
      (lt_or_le 1 m)

  second_last_whole : second_last x y G ≡ node_at x y G (length x - 2)
  unfolding second_last
  second_last_whole =
      let q : length x ≡ 2 → ⊥ = λ z. omega (arith, n) in
      simp (ne_eqb (length x) 2 q) (sym (node_middle x y G (length x - 2) (omega (arith, n)) (omega (arith, n))))

  last_same : node_at (part p x) (part p y) F m ≡ node_at x y G p.to
  unfolding last_node
  last_same =
      let r = fair.rising in
      let w = points in
      node_last (part p x) (part p y) F m (omega (arith, r)) (omega (arith, w))
      ∙ ⊎_elim
      (λ (z : (p.to ≡ length x - 1) × (p.right ≡ None)).
      let e = z.0 in
      ap (λ (l : End). or_given l (outer method.force_positive (at (part p y) (length (part p x) - 1)) (second_last (part p x) (part p y) F))) z.1
      ∙ ap (λ (v : Float). outer method.force_positive v (second_last (part p x) (part p y) F)) (y_at (length (part p x) - 1) (length x - 1) (omega (arith, w)) (omega (arith, w, e, r)))
      ∙ ap (outer method.force_positive (at y (length x - 1))) (second_last_same e ∙ sym second_last_whole)
      ∙ sym (node_last x y G (length x - 1) (omega (arith, n)) refl)
      ∙ ap (node_at x y G) (sym e))
      (λ (z : (p.to < length x - 1) × (p.right ≡ Some (node_at x y G p.to))). ap (λ (l : End). or_given l (outer method.force_positive (at (part p y) (length (part p x) - 1)) (second_last (part p x) (part p y) F))) z.1)
      fair.right_end

  pub nodes_same : (k : ℕ) → k ≤ m → node_at (part p x) (part p y) F k ≡ node_at x y G (a + k)
  nodes_same nat.zero h = first_same ∙ ap (node_at x y G) (sym (add-zero a))
  nodes_same (suc k) h =
      ⊎_elim
      (λ (l : suc k < m).
      let w = points in
      let i = below in
      node_middle (part p x) (part p y) F (suc k) (omega arith) (omega (arith, w))
      ∙ middle_same (suc k) (a + suc k) (omega arith) l refl
      ∙ sym (node_middle x y G (a + suc k) (omega arith) (omega (arith, i))))
      (λ (l : m ≤ suc k).
      let r = fair.rising in
      let e : suc k ≡ m = omega arith in
      ap (node_at (part p x) (part p y) F) e ∙ last_same ∙ ap (node_at x y G) (omega (arith, r)))
      (lt_or_le (suc k) m)

  pub totals_same : (k : ℕ) → k ≤ m → total_at (part p x) (part p y) F k ≡ total_at x y G (a + k)
  unfolding total_at
  totals_same nat.zero h = fair.total ∙ ap (total_at x y G) (sym (add-zero a))
  totals_same (suc k) h =
      rw (totals_same k (omega arith), y_at (k + 1) (a + k + 1) (omega arith) (omega arith), x_at (k + 1) (a + k + 1) (omega arith) (omega arith), x_at k (a + k) (omega arith) refl, add-suc a k)

  period_same : (k j : ℕ) → k < m → j ≡ a + k → period_at (part p x) (part p y) F k ≡ period_at x y G j
  period_same k j h e =
      let f : a + (k + 1) ≡ j + 1 = omega arith in
      rw (
        x_at k j (omega arith) e,
        x_at (k + 1) (j + 1) (omega arith) (omega arith),
        y_at (k + 1) (j + 1) (omega arith) (omega arith),
        nodes_same k (omega arith) ∙ ap (node_at x y G) (sym e),
        nodes_same (k + 1) (omega arith) ∙ ap (node_at x y G) f,
        totals_same k (omega arith) ∙ ap (total_at x y G) (sym e),
      )

  pub sections_same : (k j : ℕ) → k < m → j ≡ a + k → section_at (part p x) (part p y) F k ≡ section_at x y G j
  unfolding section_at
  sections_same k j h e = ap (section_of method) (period_same k j h e)

  pub tags_same : (k : ℕ) → k < m → tag_at (part p x) (part p y) F k ≡ tag_at x y G (a + k)
  tags_same k h = ap tag_of (sections_same k (a + k) h refl)

  -- a whole record: the section, its price at both knots, and the total after it
  records_same : (k j : ℕ) → k < m → j ≡ a + k → record_for (part p x) (part p y) F k ≡ record_for x y G j
  records_same k j h e =
      let f : a + (k + 1) ≡ j + 1 = omega arith in
      rw (
        sections_same k j h e,
        x_at k j (omega arith) e,
        x_at (k + 1) (j + 1) (omega arith) (omega arith),
        totals_same (k + 1) (omega arith) ∙ ap (total_at x y G) f,
      )

  pub slots_same : (k : ℕ) → k < slot_count * m → slot_at (part p x) (part p y) F k ≡ slot_at x y G (slot_count * a + k)
  slots_same k h =
      let d : (slot_count * a + k) / slot_count ≡ a + k / slot_count = omega arith in
      let r : (slot_count * a + k) % slot_count ≡ k % slot_count = omega arith in
      ap (λ (w : List Float). get_or w (k % slot_count) nan) (records_same (k / slot_count) ((slot_count * a + k) / slot_count) (omega arith) d)
      ∙ ap (λ (j : ℕ). get_or (record_for x y G ((slot_count * a + k) / slot_count)) j nan) (sym r)

  -- the total after the sheet, and, of one that ends the table, the record
  pub total_after_lem : (tail_of (part p x) (part p y) F).total ≡ total_at x y G p.to
  unfolding tail_of
  total_after_lem =
      let w = points in
      let r = fair.rising in
      let e : length (part p x) - 2 + 1 ≡ m = omega (arith, w, r) in
      ap (total_at (part p x) (part p y) F) e ∙ totals_same m (omega arith) ∙ ap (total_at x y G) (omega (arith, r))

  pub tail_same : p.to ≡ length x - 1 → tail_of (part p x) (part p y) F ≡ tail_of x y G
  unfolding tail_of
  tail_same e =
      let w = points in
      let r = fair.rising in
      let f : a + (length (part p x) - 2 + 1) ≡ length x - 2 + 1 = omega (arith, w, r, e, n) in
      rw (
        sections_same (length (part p x) - 2) (length x - 2) (omega (arith, w, r)) (omega (arith, w, r, e)),
        x_at (length (part p x) - 2 + 1) (length x - 2 + 1) (omega (arith, w, r)) (omega (arith, w, r, e)),
        totals_same (length (part p x) - 2 + 1) (omega (arith, w, r)) ∙ ap (total_at x y G) f,
      )

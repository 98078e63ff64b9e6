-- Sheets built one after the other from the left: what each adds to what is there, and that none of an accepted table is refused.
use Rattle.std.specs.Result.{IsOk}
use borrow.Author.Rules.{rules}
use Rattle.std.specs.Prelude.{Err, None, Ok, Some}
use Prim.Native.Nat.{ℕ, ◌+◌, ◌-◌, ◌*◌, ◌≤◌, ◌<◌, zero-le}
use native.Mathlib.Omega.{arith}
use native.Mathlib.Nat.{zero-add, le_refl}
use mathlib.Core.Bool.{Bool, true, false, cond, ◌&&◌}
use mathlib.Core.List.{List, [], ◌∷◌}
use mathlib.Core.Logic.{◌⊎◌, inl, inr, ⊎_elim}
use mathlib.Core.Path.{◌≡◌, refl, sym, ap, ◌∙◌}
use borrow.Author.Tests.{ne_eqb, eqb-true, eqb-false, lt-ltb, le-ltb}
use lib.Dec.{eqb, ltb}
use lib.Ieee.{Float, nan}
use lib.ListN.{length, get_or}
use Rattle.numbers.specs.Overlay.{overlay}
use Rattle.numbers.specs.Sizes.{slot_count}
use Rattle.numbers.specs.Words.{zero}
use Rattle.numbers.proofs.Every.{and_right_false}
use Rattle.numbers.proofs.Overlay.{overlay_none, overlay_same, length_overlay}
use Rattle.numbers.proofs.Ways.{lt_or_le}
use Rattle.table.specs.Buffers.{Buffers, Outcome}
use Rattle.table.specs.Table.{at, node_at, total_at, End}
use Rattle.table.specs.declared.method.ConvexMonotone.{ConvexMonotone}
use Rattle.assembly.specs.Making.{after}
use Rattle.assembly.specs.Sections.{tag_at, slot_at, tail_of}
use Rattle.assembly.specs.declared.sections.Tail.{Tail}
use Rattle.sheets.specs.Sheet.{none_given, SheetBuilt}
use Rattle.sheets.specs.Pieces.{Piece, whole, answer_of}
use Rattle.sheets.specs.Cuts.{start_of, cut_fits, cuts_fit}
use Rattle.sheets.specs.Steps.{left_end, Fair, Ready, piece_of_whole}
use Rattle.sheets.specs.declared.sheet.SheetEnd.{SheetEnd}
use Rattle.sheets.proofs.Cuts.{Stands, given_left, cut_fits_lem, next_start}
use Rattle.sheets.proofs.SameCurve.{after_one, same_answer}
use Rattle.sheets.proofs.Strokes.{Stretch, strokes, strokes_all, from_start}
use Rattle.sheets.specs.SameCurve.{One}
use Rattle.sheets.proofs.Together.{Table, piece_verdict, piece_outcome, piece_accepted, sound_part}

-- one sheet of a table that is sound, on buffers with room for all of it
module _ (x y : List Float) (method : ConvexMonotone) (b : Buffers) (ready : Ready x y method b) (p : Piece) (f : Fair x y method p) (g : none_given p.left p.right ≡ false) where
  t : Table x y
  t = record { same = ready.sound.same; low = ready.low }

  stands : Stands (length x - 1) p
  stands = record { rising = f.rising; inside = f.inside }

  pub taken : piece_verdict x y method p b ≡ Ok tt
  taken = piece_accepted x y method b t ready.room p stands g (sound_part x y method t ready.sound p stands)

  abbrev in_sheet : SheetEnd → SheetBuilt → SheetEnd
  in_sheet d (Ok s) = s
  in_sheet d (Err r) = d

  answers : (piece_outcome x y method p b).answer ≡ Ok (answer_of p.right (total_at x y (whole method) p.to) (tail_of x y (whole method)))
  answers = same_answer x y method t p f b taken

  abbrev ends : SheetEnd → Buffers → Outcome SheetEnd
  ends s c = record { answer = s; buffers = c }

  pub is_piece : (s : SheetEnd) (o : Outcome SheetBuilt) → o ≡ piece_outcome x y method p b → o.answer ≡ Ok s → ends s o.buffers ≡ piece_of_whole x y method p b
  is_piece s o e h =
      ap (λ (q : SheetEnd). ends q o.buffers) (ap (in_sheet s) (sym h ∙ ap (λ (q : Outcome SheetBuilt). q.answer) e ∙ answers))
      ∙ ap (ends (piece_of_whole x y method p b).answer) (ap (λ (q : Outcome SheetBuilt). q.buffers) e ∙ after_one x y method t p f b taken)

  pub is_answered : (o : Outcome SheetBuilt) → o ≡ piece_outcome x y method p b → IsOk o.answer
  is_answered o e = rw (ap (λ (q : Outcome SheetBuilt). q.answer) e ∙ answers) (search rules)

-- a stretch that starts within what is filled, or right behind it
module _ {A : Type 0} (d : A) (g : ℕ → A) (w from count n : ℕ) (xs : List A) (u : from ≤ w) (v : w ≤ n) (e : from + count ≡ n) (l : n ≤ length xs) where
  abbrev filled : Stretch
  filled = record { start = 0; count = w }

  abbrev added : Stretch
  added = record { start = from; count = count }

  both : strokes g (filled ∷ added ∷ []) xs ≡ overlay 0 n g xs
  both =
      strokes_all g d (filled ∷ added ∷ []) xs n l bound
      (λ i k. ⊎_elim (λ (h : i < w). (filled, inl refl, (zero-le, omega arith))) (λ (h : w ≤ i). (added, inr (inl refl), (omega arith, omega arith))) (lt_or_le i w))
    where
      bound : (s : Stretch) → One s (filled ∷ added ∷ []) → s.start + s.count ≤ n
      bound s (inl h) = rw h (omega arith)
      bound s (inr (inl h)) = rw h (omega arith)
      bound s (inr (inr h)) = absurd h

  pub go_on : (old : List A) → old ≡ overlay 0 w g xs → overlay from count (λ k. g (from + k)) old ≡ overlay 0 n g xs
  unfolding strokes
  go_on old h = ap (overlay from count (λ k. g (from + k))) (h ∙ overlay_same 0 w g (λ k. g (0 + k)) xs (λ k i. ap g (sym (zero-add k)))) ∙ both

-- how much of the nodes is there when the next sheet starts at a place: nothing at first, then all up to the cut
abbrev pub reach : ℕ → ℕ
reach from = cond (eqb from 0) 0 (from + 1)

pub reach_bounds : (from : ℕ) → (from ≤ reach from) × (reach from ≤ from + 1)
reach_bounds from = by (eqb from 0) (eqb-true from 0)
  where
    by : (t : Bool) → (t ≡ true → from ≡ 0) → (from ≤ cond t 0 (from + 1)) × (cond t 0 (from + 1) ≤ from + 1)
    by true h = let e = h refl in (omega (arith, e), zero-le)
    by false h = (omega arith, omega arith)

pub reach_inner : (from : ℕ) → 0 < from → reach from ≡ from + 1
reach_inner from h = let e : from ≡ 0 → ⊥ = λ z. omega arith in rw (ne_eqb from 0 e)

-- a cut that is not above the one before, one that is not inside, and one that fits
module _ (cuts : List ℕ) (n j before cut : ℕ) where
  pub cut_low : before ≡ start_of cuts j → cut ≡ get_or cuts j 0 → cut ≤ before → cut_fits cuts n j ≡ false
  cut_low e f h = ap (λ (t : Bool). t && ltb (get_or cuts j 0) (n - 1)) (le-ltb (start_of cuts j) (get_or cuts j 0) (omega (arith, e, f, h)))

module _ (cuts : List ℕ) (n j last cut : ℕ) where
  pub cut_high : last ≡ n - 1 → cut ≡ get_or cuts j 0 → last ≤ cut → cut_fits cuts n j ≡ false
  cut_high e f h = ap (λ (t : Bool). ltb (start_of cuts j) (get_or cuts j 0) && t) (le-ltb (get_or cuts j 0) (n - 1) (omega (arith, e, f, h))) ∙ and_right_false (ltb (start_of cuts j) (get_or cuts j 0))

pub cut_here : (cuts : List ℕ) (n j before last cut : ℕ) → before ≡ start_of cuts j → last ≡ n - 1 → cut ≡ get_or cuts j 0 → before < cut → cut < last → cut_fits cuts n j ≡ true
cut_here cuts n j before last cut e l f g h = rw (lt-ltb (start_of cuts j) (get_or cuts j 0) (omega (arith, e, f, g)), lt-ltb (get_or cuts j 0) (n - 1) (omega (arith, l, f, h)))

-- the left end of the next sheet: free at the table's start, and else the node that is there already
module _ (x y : List Float) (method : ConvexMonotone) (nodes old : List Float) (from : ℕ) where
  abbrev LeftEnd : End → Type 0
  LeftEnd l = ((from ≡ 0) × (l ≡ None)) ⊎ ((0 < from) × (l ≡ Some (node_at x y (whole method) from)))

  pub left_is : nodes ≡ overlay 0 (reach from) (node_at x y (whole method)) old → from < length old → LeftEnd (left_end nodes from)
  left_is e l = by (eqb from 0) refl
    where
      by : (t : Bool) → eqb from 0 ≡ t → LeftEnd (left_end nodes from)
      by true h = inl (eqb-true from 0 h, rw h)
      by false h =
          let z : from ≡ 0 → ⊥ = eqb-false from 0 h in
          let p : 0 < from = omega (arith, z) in
          inr (
            p,
            ap (λ (t : Bool). cond t None (Some (at nodes from))) h
                ∙ ap (λ (ns : List Float). Some (at ns from)) (e ∙ ap (λ (w : ℕ). overlay 0 w (node_at x y (whole method)) old) (reach_inner from p))
                ∙ ap Some (from_start (node_at x y (whole method)) nan old (from + 1) from (omega arith) (omega arith)),
          )

total_of : (r : End) (total : Float) (t : Tail) → (answer_of r total t).total ≡ total
total_of None total t = refl
total_of (Some g) total t = refl

abbrev pub ending : Tail → Buffers → Outcome Tail
ending t b = record { answer = t; buffers = b }

-- after j sheets: where the next one starts, the total there, and all up to there is written
pub record Progress (x y : List Float) (method : ConvexMonotone) (cuts : List ℕ) (b₀ b : Buffers) (from : ℕ) (total : Float) (j : ℕ) : Type 0 where
  pub ready : Ready x y method b₀
  pub fits : cuts_fit cuts (length x) ≡ true
  pub start : from ≡ start_of cuts j
  pub below : from < length x - 1
  pub moved : 0 < j → 0 < from
  pub sum : total ≡ total_at x y (whole method) from
  pub nodes_so_far : b.nodes ≡ overlay 0 (reach from) (node_at x y (whole method)) b₀.nodes
  pub tags_so_far : b.tags ≡ overlay 0 from (tag_at x y (whole method)) b₀.tags
  pub slots_so_far : b.slots ≡ overlay 0 (slot_count * from) (slot_at x y (whole method)) b₀.slots

module _ (x y : List Float) (method : ConvexMonotone) (cuts : List ℕ) (b₀ : Buffers) where
  pub at_first : Ready x y method b₀ → cuts_fit cuts (length x) ≡ true → Progress x y method cuts b₀ b₀ 0 zero 0
  unfolding total_at
  at_first r f =
      let n = r.low in
      record {
        ready = r;
        fits = f;
        start = refl;
        below = omega (arith, n);
        moved = λ h. absurd (omega arith);
        sum = refl;
        nodes_so_far = overlay_none 0 _ b₀.nodes;
        tags_so_far = overlay_none 0 _ b₀.tags;
        slots_so_far = overlay_none 0 _ b₀.slots;
      }

  module _ (b : Buffers) (from : ℕ) (total : Float) (j : ℕ) (p : Progress x y method cuts b₀ b from total j) where
    pub nodes_length : length b.nodes ≡ length b₀.nodes
    nodes_length = ap length p.nodes_so_far ∙ length_overlay 0 (reach from) (node_at x y (whole method)) b₀.nodes

    pub tags_length : length b.tags ≡ length b₀.tags
    tags_length = ap length p.tags_so_far ∙ length_overlay 0 from (tag_at x y (whole method)) b₀.tags

    pub slots_length : length b.slots ≡ length b₀.slots
    slots_length = ap length p.slots_so_far ∙ length_overlay 0 (slot_count * from) (slot_at x y (whole method)) b₀.slots

    pub still_ready : Ready x y method b
    still_ready = record { low = p.ready.low; sound = p.ready.sound; room = rw (nodes_length, tags_length, slots_length) p.ready.room }

    pub in_nodes : from < length b.nodes
    in_nodes = let i = p.ready.room.in_nodes in let below = p.below in let e = nodes_length in omega (arith, i, below, e)

    pub left_here : ((from ≡ 0) × (left_end b.nodes from ≡ None)) ⊎ ((0 < from) × (left_end b.nodes from ≡ Some (node_at x y (whole method) from)))
    left_here = left_is x y method b.nodes b₀.nodes from p.nodes_so_far (let e = nodes_length in let i = in_nodes in omega (arith, e, i))

    module _ (to : ℕ) (h : j < length cuts) (e : to ≡ get_or cuts j 0) where
      pub above : from < to
      above = let c = cut_fits_lem cuts (length x) p.fits j h in let u = c.0 in let s = p.start in omega (arith, u, s, e)

      pub inside : to < length x - 1
      inside = let c = cut_fits_lem cuts (length x) p.fits j h in let u = c.1 in omega (arith, u, e)

      pub fair_next : (l : End) (g : Float) → l ≡ left_end b.nodes from → g ≡ node_at x y (whole method) to → Fair x y method (record { from = from; to = to; left = l; right = Some g; start = total })
      fair_next l g el eg =
          let i = inside in
          record {
            rising = above;
            inside = omega (arith, i);
            left_end = rw el left_here;
            right_end = inr (i, ap Some eg);
            total = p.sum;
          }

      pub onward : (l r : End) (o : Outcome SheetEnd) → o ≡ piece_of_whole x y method (record { from = from; to = to; left = l; right = r; start = total }) b →
          Progress x y method cuts b₀ o.buffers to o.answer.total (j + 1)
      onward l r o q =
          let u = above in
          let v = inside in
          let (r0, r1) = reach_bounds from in
          let fn = p.ready.room.in_nodes in
          let ft = p.ready.room.in_tags in
          let fs = p.ready.room.in_slots in
          record {
            ready = p.ready;
            fits = p.fits;
            start = e ∙ next_start cuts j;
            below = v;
            moved = λ h. omega (arith, u);
            sum = ap (λ (a : Outcome SheetEnd). a.answer.total) q ∙ total_of r _ _;
            nodes_so_far = ap (λ (a : Outcome SheetEnd). a.buffers.nodes) q
                ∙ go_on nan (node_at x y (whole method)) (reach from) from (to - from + 1) (to + 1) b₀.nodes r0 (omega (arith, r1, u)) (omega (arith, u)) (omega (arith, fn, v)) b.nodes p.nodes_so_far
                ∙ ap (λ (w : ℕ). overlay 0 w (node_at x y (whole method)) b₀.nodes) (sym (reach_inner to (omega (arith, u))));
            tags_so_far = ap (λ (a : Outcome SheetEnd). a.buffers.tags) q
                ∙ go_on 0 (tag_at x y (whole method)) from from (to - from) to b₀.tags (le_refl from) (omega (arith, u)) (omega (arith, u)) (omega (arith, ft, v)) b.tags p.tags_so_far;
            slots_so_far = ap (λ (a : Outcome SheetEnd). a.buffers.slots) q
                ∙ go_on nan (slot_at x y (whole method)) (slot_count * from) (slot_count * from) (slot_count * (to - from)) (slot_count * to) b₀.slots (le_refl (slot_count * from)) (omega (arith, u)) (omega (arith, u))
                (omega (arith, fs, v)) b.slots p.slots_so_far;
          }

    -- the last sheet, which ends at the last knot
    module _ (h : 0 < j) (last : ℕ) (e : last ≡ length x - 1) where
      pub fair_last : (l : End) → l ≡ left_end b.nodes from → Fair x y method (record { from = from; to = last; left = l; right = None; start = total })
      fair_last l el =
          let below = p.below in
          record {
            rising = omega (arith, below, e);
            inside = omega (arith, e);
            left_end = rw el left_here;
            right_end = inl (e, refl);
            total = p.sum;
          }

      pub given_last : (l : End) → l ≡ left_end b.nodes from → none_given l None ≡ false
      given_last l el =
          let m = p.moved h in
          ⊎_elim
          (λ (z : (from ≡ 0) × (left_end b.nodes from ≡ None)). absurd (let w = z.0 in omega (arith, w, m)))
          (λ (z : (0 < from) × (left_end b.nodes from ≡ Some (node_at x y (whole method) from))). given_left None l _ (el ∙ z.1))
          left_here

      pub all_written : (l : End) (o : Outcome SheetEnd) → o ≡ piece_of_whole x y method (record { from = from; to = last; left = l; right = None; start = total }) b →
          ending o.answer.tail o.buffers ≡ ending (tail_of x y (whole method)) (after 0 x y (whole method) b₀)
      all_written l o q =
          let below = p.below in
          let (r0, r1) = reach_bounds from in
          let fn = p.ready.room.in_nodes in
          let ft = p.ready.room.in_tags in
          let fs = p.ready.room.in_slots in
          ap (λ (a : Outcome SheetEnd). ending a.answer.tail a.buffers) q
          ∙ rw (
            go_on nan (node_at x y (whole method)) (reach from) from (last - from + 1) (length x) b₀.nodes r0 (omega (arith, r1, below)) (omega (arith, below, e)) fn b.nodes p.nodes_so_far,
            go_on 0 (tag_at x y (whole method)) from from (last - from) (length x - 1) b₀.tags (le_refl from) (omega (arith, below)) (omega (arith, below, e)) ft b.tags p.tags_so_far,
            go_on nan (slot_at x y (whole method)) (slot_count * from) (slot_count * from) (slot_count * (last - from)) (slot_count * (length x - 1)) b₀.slots (le_refl (slot_count * from)) (omega (arith, below))
                (omega (arith, below, e)) fs b.slots p.slots_so_far,
          )

-- a table with an inner knot has three points
pub three : (cuts : List ℕ) (n : ℕ) → cuts_fit cuts n ≡ true → 0 < length cuts → 3 ≤ n
three cuts n f h = let (u, v) = cut_fits_lem cuts n f 0 h in omega (arith, u, v)

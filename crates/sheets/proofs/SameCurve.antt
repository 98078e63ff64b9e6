-- Sheets that cover a table, each handed the whole's numbers, in whatever order they are built and however often: they leave every buffer as the whole build does
-- (`same_curve`), and each answers the whole's total at its end and, where no node is given for its right end, the whole's tail (`same_answers`).
use Rattle.curve.specs.Curve.{Built}
use Rattle.std.specs.Prelude.{Err, None, Ok, Some}
use Prim.Native.Nat.{ℕ, ◌+◌, ◌-◌, ◌*◌, ◌/◌, ◌≤◌, ◌<◌}
use native.Mathlib.Omega.{arith}
use mathlib.Core.Bool.{false}
use mathlib.Core.List.{List, [], ◌∷◌, map}
use mathlib.Core.Logic.{inl, inr, ⊎_elim}
use mathlib.Core.Path.{◌≡◌, refl, sym, ap, ◌∙◌}
use borrow.Author.Tests.{ne_eqb}
use lib.Ieee.{Float, nan}
use lib.ListN.{length}
use Rattle.numbers.specs.Overlay.{overlay}
use Rattle.numbers.specs.Sizes.{slot_count}
use Rattle.numbers.proofs.Overlay.{overlay_same}
use Rattle.table.specs.Buffers.{Buffers, Outcome}
use Rattle.table.specs.Table.{node_at, total_at, End}
use Rattle.table.specs.declared.method.ConvexMonotone.{ConvexMonotone}
use Rattle.table.specs.declared.ends.Frame.{Frame}
use Rattle.table.proofs.Outcomes.{left_new}
use Rattle.assembly.specs.Making.{after}
use Rattle.assembly.specs.Sections.{tag_at, slot_at, tail_of}
use Rattle.assembly.specs.declared.sections.Tail.{Tail}
use Rattle.curve.specs.Build.{whole_frame, curve_of}
use Rattle.sheets.specs.Sheet.{sheet_frame, no_tail, end_of, SheetBuilt}
use Rattle.sheets.specs.Pieces.{Piece, whole, part, answer_of}
use Rattle.sheets.specs.SameCurve.{RoomFor, One}
use Rattle.sheets.specs.Steps.{Fair, whole_at}
use Rattle.sheets.specs.declared.sheet.SheetEnd.{SheetEnd}
use Rattle.sheets.proofs.Alike.{points, nodes_same, tags_same, slots_same, total_after_lem, tail_same}
use Rattle.sheets.proofs.Cuts.{Stands, Covers, one_map, map_one}
use Rattle.sheets.proofs.Strokes.{Stretch, strokes, strokes_all}
use Rattle.sheets.proofs.Together.{Table, piece_verdict, piece_outcome, after_piece, answers_of, after_all, whole_verdict, whole_outcome, whole_sound, taken, knot, room_after}

-- where a sheet writes
abbrev node_stretch : Piece → Stretch
node_stretch p = record { start = p.from; count = p.to - p.from + 1 }

abbrev tag_stretch : Piece → Stretch
tag_stretch p = record { start = p.from; count = p.to - p.from }

abbrev slot_stretch : Piece → Stretch
slot_stretch p = record { start = slot_count * p.from; count = slot_count * (p.to - p.from) }

abbrev ending : Float → Tail → SheetEnd
ending total t = record { total = total; tail = t }

module _ (x y : List Float) (method : ConvexMonotone) (table : Table x y) where
  abbrev G : Frame
  G = whole method

  pub whole_frame_lem : whole_frame (length x) method false None ≡ G
  whole_frame_lem = let n = table.low in let e : length x ≡ 2 → ⊥ = λ z. omega (arith, n) in simp (ne_eqb (length x) 2 e)

  -- a sheet with the whole's numbers, on any buffers that have room
  module _ (p : Piece) (f : Fair x y method p) (b : Buffers) (h : piece_verdict x y method p b ≡ Ok tt) where
    abbrev F : Frame
    F = sheet_frame method p.left p.right p.start

    count : length (part p x) ≡ p.to - p.from + 1
    count = points x y method table.low table.same p f

    less_one : length (part p x) - 1 ≡ p.to - p.from
    less_one = let e = count in omega (arith, e)

    pub after_one : after_piece x y method p b ≡ whole_at x y method p b
    after_one =
        ap (λ (o : Outcome SheetBuilt). o.buffers) (left_new (piece_verdict x y method p b) Err b _ (piece_outcome x y method p b) refl h)
        ∙ rw (
          less_one,
          count,
          overlay_same p.from (p.to - p.from + 1) (node_at (part p x) (part p y) F) (λ k. node_at x y G (p.from + k)) b.nodes
              (λ k l. nodes_same x y method table.low table.same p f k (omega (arith, l))),
          overlay_same p.from (p.to - p.from) (tag_at (part p x) (part p y) F) (λ k. tag_at x y G (p.from + k)) b.tags
              (λ k l. tags_same x y method table.low table.same p f k l),
          overlay_same (slot_count * p.from) (slot_count * (p.to - p.from)) (slot_at (part p x) (part p y) F) (λ k. slot_at x y G (slot_count * p.from + k)) b.slots
              (λ k l. slots_same x y method table.low table.same p f k l),
        )

    pub same_answer : (piece_outcome x y method p b).answer ≡ Ok (answer_of p.right (total_at x y G p.to) (tail_of x y G))
    same_answer = rw (h, by_end)
      where
        by_end : end_of p.right (tail_of (part p x) (part p y) F) ≡ answer_of p.right (total_at x y G p.to) (tail_of x y G)
        by_end =
            ⊎_elim
            (λ (z : (p.to ≡ length x - 1) × (p.right ≡ None)).
            ap (λ (r : End). end_of r (tail_of (part p x) (part p y) F)) z.1
            ∙ ap (λ (t : Float). ending t (tail_of (part p x) (part p y) F)) (total_after_lem x y method table.low table.same p f)
            ∙ ap (ending (total_at x y G p.to)) (tail_same x y method table.low table.same p f z.0)
            ∙ sym (ap (λ (r : End). answer_of r (total_at x y G p.to) (tail_of x y G)) z.1))
            (λ (z : (p.to < length x - 1) × (p.right ≡ Some (node_at x y G p.to))).
            ap (λ (r : End). end_of r (tail_of (part p x) (part p y) F)) z.1
            ∙ ap (λ (t : Float). ending t no_tail) (total_after_lem x y method table.low table.same p f)
            ∙ sym (ap (λ (r : End). answer_of r (total_at x y G p.to) (tail_of x y G)) z.1))
            f.right_end

  -- sheets one after the other are strokes
  abbrev paint : List Piece → Buffers → Buffers
  paint ps b = record {
    nodes = strokes (node_at x y G) (map node_stretch ps) b.nodes;
    tags = strokes (tag_at x y G) (map tag_stretch ps) b.tags;
    slots = strokes (slot_at x y G) (map slot_stretch ps) b.slots;
  }

  painted : (ps : List Piece) (b : Buffers) → RoomFor x b → ((p : Piece) → One p ps → Fair x y method p) →
      ((p : Piece) → One p ps → (c : Buffers) → RoomFor x c → piece_verdict x y method p c ≡ Ok tt) → after_all x y method ps b ≡ paint ps b
  unfolding after_all strokes
  painted [] b r f h = refl
  painted (p ∷ ps) b r f h =
      painted ps (after_piece x y method p b) (room_after x y method p b r) (λ q o. f q (inr o)) (λ q o. h q (inr o))
      ∙ ap (paint ps) (after_one p (f p (inl refl)) b (h p (inl refl) b r))

  -- what a sheet of the whole answers
  abbrev pub answering : Tail → Piece → SheetBuilt
  answering t p = Ok (answer_of p.right (total_at x y G p.to) t)

  answered : (ps : List Piece) (b : Buffers) → RoomFor x b → ((p : Piece) → One p ps → Fair x y method p) →
      ((p : Piece) → One p ps → (c : Buffers) → RoomFor x c → piece_verdict x y method p c ≡ Ok tt) → answers_of x y method ps b ≡ map (answering (tail_of x y G)) ps
  unfolding answers_of
  answered [] b r f h = refl
  answered (p ∷ ps) b r f h =
      ap (λ (a : SheetBuilt). a ∷ answers_of x y method ps (after_piece x y method p b)) (same_answer p (f p (inl refl)) b (h p (inl refl) b r))
      ∙ ap (λ (l : List SheetBuilt). answering (tail_of x y G) p ∷ l) (answered ps (after_piece x y method p b) (room_after x y method p b r) (λ q o. f q (inr o)) (λ q o. h q (inr o)))

  module _ (b : Buffers) (w : whole_verdict x y method b ≡ Ok tt) where
    pub after_whole : (whole_outcome x y method b).buffers ≡ after 0 x y G b
    after_whole =
        ap (λ (o : Outcome Built). o.buffers) (left_new (whole_verdict x y method b) Err b _ (whole_outcome x y method b) refl w)
        ∙ ap (λ (frame : Frame). after 0 x y frame b) whole_frame_lem

    -- the whole's tail is that of `tail_of` above
    pub whole_answer : (whole_outcome x y method b).answer ≡ Ok (record { sections = length x - 1; held = false; extrapolates = false; tail = tail_of x y G })
    unfolding curve_of
    whole_answer = rw (w, whole_frame_lem)

    module _ (room : RoomFor x b) (ps : List Piece) (all : Covers (length x - 1) ps) (fairs : (p : Piece) → One p ps → Fair x y method p) where
      none_refused : (p : Piece) → One p ps → (c : Buffers) → RoomFor x c → piece_verdict x y method p c ≡ Ok tt
      none_refused = taken x y method table ps all (whole_sound x y method b table room w)

      stretch_of : (g : Piece → Stretch) (n : ℕ) → ((p : Piece) → Stands (length x - 1) p → (g p).start + (g p).count ≤ n) → (s : Stretch) → One s (map g ps) → s.start + s.count ≤ n
      stretch_of g n h s o = let q = map_one g ps s o in rw q.2 (h q.0 (all.stands q.0 q.1))

      all_nodes : strokes (node_at x y G) (map node_stretch ps) b.nodes ≡ overlay 0 (length x) (node_at x y G) b.nodes
      all_nodes =
          strokes_all (node_at x y G) nan (map node_stretch ps) b.nodes (length x) room.in_nodes
          (stretch_of node_stretch (length x) (λ p t. (let u = t.rising in let v = t.inside in let n = table.low in omega (arith, u, v, n))))
          (λ j l.
          let q = knot x y method table ps all j l in
          let u = q.2 in
          let v = q.3 in
          (node_stretch q.0, one_map node_stretch ps q.0 q.1, (u, omega (arith, u, v))))

      all_tags : strokes (tag_at x y G) (map tag_stretch ps) b.tags ≡ overlay 0 (length x - 1) (tag_at x y G) b.tags
      all_tags =
          strokes_all (tag_at x y G) 0 (map tag_stretch ps) b.tags (length x - 1) room.in_tags
          (stretch_of tag_stretch (length x - 1) (λ p t. (let u = t.rising in let v = t.inside in omega (arith, u, v))))
          (λ j l.
          let q = all.period j l in
          let u = q.2 in
          let v = q.3 in
          (tag_stretch q.0, one_map tag_stretch ps q.0 q.1, (u, omega (arith, u, v))))

      all_slots : strokes (slot_at x y G) (map slot_stretch ps) b.slots ≡ overlay 0 (slot_count * (length x - 1)) (slot_at x y G) b.slots
      all_slots =
          strokes_all (slot_at x y G) nan (map slot_stretch ps) b.slots (slot_count * (length x - 1)) room.in_slots
          (stretch_of slot_stretch (slot_count * (length x - 1)) (λ p t. (let u = t.rising in let v = t.inside in omega (arith, u, v))))
          (λ j l.
          let q = all.period (j / slot_count) (omega (arith, l)) in
          let u = q.2 in
          let v = q.3 in
          (slot_stretch q.0, one_map slot_stretch ps q.0 q.1, (omega (arith, u), omega (arith, u, v))))

      pub same_curve : after_all x y method ps b ≡ (whole_outcome x y method b).buffers
      same_curve = rw (painted ps b room fairs none_refused, all_nodes, all_tags, all_slots) (sym after_whole)

      pub same_answers : answers_of x y method ps b ≡ map (answering (tail_of x y G)) ps
      same_answers = answered ps b room fairs none_refused

-- The sheets of a table are accepted together exactly when the whole is: what is asked of a table's numbers is asked at every place, and every place is in a sheet.
use Rattle.curve.specs.Curve.{Built}
use Rattle.refusal.specs.Refusal.{Verdict}
use Rattle.std.specs.Prelude.{Err, None, Ok}
use Prim.Native.Nat.{ℕ, ◌+◌, ◌-◌, ◌*◌, ◌≤◌, ◌<◌}
use native.Mathlib.Omega.{arith}
use mathlib.Core.Bool.{Bool, true, false, not, ◌&&◌}
use mathlib.Core.List.{List, [], ◌∷◌}
use mathlib.Core.Logic.{◌⊎◌, inl, inr}
use mathlib.Core.Path.{◌≡◌, refl, sym, ap, ◌∙◌}
use lib.Ieee.{Float, nan, lt, le}
use lib.ListN.{length}
use Rattle.numbers.specs.Sizes.{slot_count}
use Rattle.numbers.specs.Words.{zero, finite}
use Rattle.numbers.proofs.Every.{all_at, all_every, and_split}
use Rattle.numbers.proofs.Overlay.{length_overlay}
use Rattle.numbers.proofs.Ways.{never, lt_or_le}
use Rattle.refusal.specs.declared.Refusal.{Refusal}
use Rattle.table.specs.Buffers.{Buffers, Outcome, judged}
use Rattle.table.specs.Check.{all_finite, rising, from_zero}
use Rattle.table.specs.Method.{safely}
use Rattle.table.specs.Sound.{Sound}
use Rattle.table.specs.Table.{at, node_at}
use Rattle.table.specs.declared.method.ConvexMonotone.{ConvexMonotone}
use Rattle.table.specs.declared.ends.Frame.{Frame}
use Rattle.assembly.specs.Making.{after}
use Rattle.assembly.specs.Sections.{tag_at, slot_at, tail_of}
use Rattle.curve.specs.Build.{whole_frame, curve_of, build_verdict, build_outcome}
use Rattle.curve.proofs.Accepted.{accepted_sound, accepts}
use Rattle.sheets.specs.Sheet.{none_given, sheet_frame, end_of, sheet_verdict, sheet_outcome, SheetBuilt}
use Rattle.sheets.specs.Pieces.{Piece, part}
use Rattle.sheets.specs.SameCurve.{RoomFor, One, is_curve, is_sheet, all_sheets}
use Rattle.sheets.proofs.Alike.{part_length, part_at}
use Rattle.sheets.proofs.Cuts.{Stands, Covers}
use Rattle.sheets.proofs.Parts.{sheet_sound, sheet_accepts}

-- a table of three points or more, and buffers with room for all of it
pub record Table (x y : List Float) : Type 0 where
  pub same : length x ≡ length y
  pub low : 3 ≤ length x

module _ (x y : List Float) (method : ConvexMonotone) where
  -- what `sheet` decides of a sheet, and what it answers and leaves
  abbrev pub piece_verdict : Piece → Buffers → Verdict
  piece_verdict p b = sheet_verdict (part p x) (part p y) method p.left p.right p.from b

  abbrev pub piece_outcome : Piece → Buffers → Outcome SheetBuilt
  piece_outcome p b = sheet_outcome (part p x) (part p y) method p.left p.right p.start p.from b

  abbrev pub after_piece : Piece → Buffers → Buffers
  after_piece p b = (piece_outcome p b).buffers

  -- sheets one after the other, each on the buffers that the one before left: what they answer, and the buffers at the end
  unfoldable pub answers_of : List Piece → Buffers → List SheetBuilt
  answers_of [] b = []
  answers_of (p ∷ ps) b = (piece_outcome p b).answer ∷ answers_of ps (after_piece p b)

  unfoldable pub after_all : List Piece → Buffers → Buffers
  after_all [] b = b
  after_all (p ∷ ps) b = after_all ps (after_piece p b)

  -- what the whole build decides, and what it answers and leaves, with no seam and no held last period
  abbrev pub whole_verdict : Buffers → Verdict
  whole_verdict b = build_verdict x y method None b

  abbrev pub whole_outcome : Buffers → Outcome Built
  whole_outcome b = build_outcome x y method false None b

  -- a sheet, and the whole, are answered exactly when they are accepted
  pub sheet_taken : (p : Piece) (b : Buffers) → is_sheet (piece_outcome p b).answer ≡ true → piece_verdict p b ≡ Ok tt
  sheet_taken p b h = by (piece_verdict p b) h
    where
      frame : Frame
      frame = sheet_frame method p.left p.right p.start

      by : (v : Verdict) → is_sheet (judged v Err b (record { answer = Ok (end_of p.right (tail_of (part p x) (part p y) frame)); buffers = after p.from (part p x) (part p y) frame b })).answer ≡ true → v ≡ Ok tt
      by (Ok tt) h = refl
      by (Err r) h = never h refl

  pub whole_taken : (b : Buffers) → is_curve (whole_outcome b).answer ≡ true → whole_verdict b ≡ Ok tt
  whole_taken b h = by (whole_verdict b) h
    where
      frame : Frame
      frame = whole_frame (length x) method false None

      by : (v : Verdict) → is_curve (judged v Err b (record { answer = curve_of x y frame false; buffers = after 0 x y frame b })).answer ≡ true → v ≡ Ok tt
      by (Ok tt) h = refl
      by (Err r) h = never h refl

-- the whole, and a sheet, are accepted exactly when they are sound
module _ (x y : List Float) (method : ConvexMonotone) (b : Buffers) (table : Table x y) (room : RoomFor x b) where
  pub whole_sound : whole_verdict x y method b ≡ Ok tt → Sound x y method
  whole_sound h = accepted_sound x y method None (length b.nodes) (length b.tags) (length b.slots) h

  pub whole_accepted : Sound x y method → whole_verdict x y method b ≡ Ok tt
  whole_accepted s = accepts x y method None (length b.nodes) (length b.tags) (length b.slots) s refl room

  module _ (p : Piece) (s : Stands (length x - 1) p) (g : none_given p.left p.right ≡ false) where
    within : p.to < length x
    within = let i = s.inside in let n = table.low in omega (arith, i, n)

    pub piece_sound : piece_verdict x y method p b ≡ Ok tt → Sound (part p x) (part p y) method
    piece_sound h = sheet_sound (part p x) (part p y) method p.left p.right p.from (length b.nodes) (length b.tags) (length b.slots) h

    pub piece_accepted : Sound (part p x) (part p y) method → piece_verdict x y method p b ≡ Ok tt
    piece_accepted q =
        let n = part_length p x within in
        let r = s.rising in
        let i = s.inside in
        let high = room.high in
        let in_nodes = room.in_nodes in
        let in_tags = room.in_tags in
        let in_slots = room.in_slots in
        sheet_accepts (part p x) (part p y) method p.left p.right p.from (length b.nodes) (length b.tags) (length b.slots) g q
        (record {
          high = omega (arith, n, i, high);
          in_nodes = omega (arith, n, r, i, in_nodes);
          in_tags = omega (arith, n, r, i, in_tags);
          in_slots = omega (arith, n, r, i, in_slots);
        })

-- finiteness and order, at a sheet's places and at the whole's
module _ (p : Piece) (xs : List Float) (r : p.from < p.to) (i : p.to < length xs) where
  pub finite_part : all_finite xs ≡ true → all_finite (part p xs) ≡ true
  unfolding all_finite
  finite_part h =
      all_every (length (part p xs)) (λ k. finite (at (part p xs) k))
      (λ k l.
      let n = part_length p xs i in
      ap finite (part_at p xs nan k (omega (arith, n, l))) ∙ all_at (length xs) (λ j. finite (at xs j)) h (p.from + k) (omega (arith, n, l, r, i)))

  pub rising_part : rising xs ≡ true → rising (part p xs) ≡ true
  unfolding rising
  rising_part h =
      all_every (length (part p xs) - 1) (λ k. lt (at (part p xs) k) (at (part p xs) (k + 1)))
      (λ k l.
      let n = part_length p xs i in
      let e : p.from + (k + 1) ≡ p.from + k + 1 = omega arith in
      rw (part_at p xs nan k (omega (arith, n, l, r)), part_at p xs nan (k + 1) (omega (arith, n, l, r)), e)
      (all_at (length xs - 1) (λ j. lt (at xs j) (at xs (j + 1))) h (p.from + k) (omega (arith, n, l, r, i))))

  pub finite_at : all_finite (part p xs) ≡ true → (j : ℕ) → p.from ≤ j → j ≤ p.to → finite (at xs j) ≡ true
  unfolding all_finite
  finite_at h j u v =
      let n = part_length p xs i in
      let e : p.from + (j - p.from) ≡ j = omega arith in
      ap (λ (k : ℕ). finite (at xs k)) (sym e)
      ∙ ap finite (sym (part_at p xs nan (j - p.from) (omega arith)))
      ∙ all_at (length (part p xs)) (λ k. finite (at (part p xs) k)) h (j - p.from) (omega (arith, n, u, v))

  pub rising_at : rising (part p xs) ≡ true → (j : ℕ) → p.from ≤ j → j < p.to → lt (at xs j) (at xs (j + 1)) ≡ true
  unfolding rising
  rising_at h j u v =
      let n = part_length p xs i in
      let k = j - p.from in
      let e : p.from + (j - p.from) ≡ j = omega arith in
      let f : p.from + (j - p.from + 1) ≡ j + 1 = omega arith in
      let d : at (part p xs) (j - p.from) ≡ at xs j = part_at p xs nan (j - p.from) (omega arith) ∙ ap (at xs) e in
      let c : at (part p xs) (j - p.from + 1) ≡ at xs (j + 1) = part_at p xs nan (j - p.from + 1) (omega arith) ∙ ap (at xs) f in
      rw (sym d, sym c) (all_at (length (part p xs) - 1) (λ k. lt (at (part p xs) k) (at (part p xs) (k + 1))) h (j - p.from) (omega (arith, n, u, v)))

  pub from_zero_part : from_zero xs ≡ true → from_zero (part p xs) ≡ true
  unfolding from_zero
  from_zero_part h =
      all_every (length (part p xs) - 1) (λ k. le zero (at (part p xs) (k + 1)))
      (λ k l.
      let n = part_length p xs i in
      let e : p.from + (k + 1) ≡ p.from + k + 1 = omega arith in
      rw (part_at p xs nan (k + 1) (omega (arith, n, l, r)), e) (all_at (length xs - 1) (λ j. le zero (at xs (j + 1))) h (p.from + k) (omega (arith, n, l, r, i))))

  pub from_zero_at : from_zero (part p xs) ≡ true → (j : ℕ) → p.from ≤ j → j < p.to → le zero (at xs (j + 1)) ≡ true
  unfolding from_zero
  from_zero_at h j u v =
      let n = part_length p xs i in
      let f : p.from + (j - p.from + 1) ≡ j + 1 = omega arith in
      let c : at (part p xs) (j - p.from + 1) ≡ at xs (j + 1) = part_at p xs nan (j - p.from + 1) (omega arith) ∙ ap (at xs) f in
      rw (sym c) (all_at (length (part p xs) - 1) (λ k. le zero (at (part p xs) (k + 1))) h (j - p.from) (omega (arith, n, u, v)))

-- what is asked of the averages only in one mode
if_asked : (a b : Bool) → (a ≡ true → b ≡ true) → a && not b ≡ false
if_asked true b h = rw (h refl)
if_asked false b h = refl

was_asked : (a b : Bool) → a && not b ≡ false → a ≡ true → b ≡ true
was_asked true true h e = refl
was_asked true false h e = sym h
was_asked false b h e = never e refl

module _ (x y : List Float) (method : ConvexMonotone) (table : Table x y) where
  pub sound_part : Sound x y method → (p : Piece) → Stands (length x - 1) p → Sound (part p x) (part p y) method
  sound_part s p q =
      let r = q.rising in
      let i = q.inside in
      let n = table.low in
      let e = table.same in
      let m = part_length p x (omega (arith, i, n)) in
      let k = part_length p y (omega (arith, i, n, e)) in
      record {
        same = m ∙ sym k;
        monotonicity = s.monotonicity;
        quadraticity = s.quadraticity;
        low = omega (arith, m, r);
        knots = finite_part p x r (omega (arith, i, n)) s.knots;
        averages = finite_part p y r (omega (arith, i, n, e)) s.averages;
        rise = rising_part p x r (omega (arith, i, n)) s.rise;
        signs = if_asked (safely method) (from_zero (part p y)) (λ asked. from_zero_part p y r (omega (arith, i, n, e)) (was_asked (safely method) (from_zero y) s.signs asked));
      }

  module _ (ps : List Piece) (all : Covers (length x - 1) ps) where
    -- a knot is in the sheet of the period that it starts, and the last one in that of the last period
    pub knot : (i : ℕ) → i < length x → (p : Piece) × One p ps × (p.from ≤ i) × (i ≤ p.to)
    knot i l = by_place (lt_or_le i (length x - 1))
      where
        by_place : (i < length x - 1) ⊎ (length x - 1 ≤ i) → (p : Piece) × One p ps × (p.from ≤ i) × (i ≤ p.to)
        by_place (inl u) = let q = all.period i u in let w = q.3 in (q.0, q.1, q.2, omega (arith, w))
        by_place (inr u) =
            let n = table.low in
            let q = all.period (length x - 2) (omega (arith, n)) in
            let v = q.2 in
            let w = q.3 in
            (q.0, q.1, omega (arith, v, u, n), omega (arith, w, l, n))

    pub sound_whole : ((p : Piece) → One p ps → Sound (part p x) (part p y) method) → Sound x y method
    unfolding all_finite rising from_zero
    sound_whole s =
        let n = table.low in
        let f = all.period 0 (omega (arith, n)) in
        record {
          same = table.same;
          monotonicity = (s f.0 f.1).monotonicity;
          quadraticity = (s f.0 f.1).quadraticity;
          low = omega (arith, n);
          knots = all_every (length x) (λ i. finite (at x i))
              (λ i l. let q = knot i l in let t = all.stands q.0 q.1 in let r = t.inside in finite_at q.0 x t.rising (omega (arith, r, n)) (s q.0 q.1).knots i q.2 q.3);
          averages = all_every (length y) (λ i. finite (at y i))
              (λ i l.
              let e = table.same in
              let q = knot i (omega (arith, l, e)) in
              let t = all.stands q.0 q.1 in
              let r = t.inside in
              finite_at q.0 y t.rising (omega (arith, r, n, e)) (s q.0 q.1).averages i q.2 q.3);
          rise = all_every (length x - 1) (λ i. lt (at x i) (at x (i + 1)))
              (λ i l. let q = all.period i l in let t = all.stands q.0 q.1 in let r = t.inside in rising_at q.0 x t.rising (omega (arith, r, n)) (s q.0 q.1).rise i q.2 q.3);
          signs = if_asked (safely method) (from_zero y)
              (λ asked. all_every (length y - 1) (λ i. le zero (at y (i + 1)))
              (λ i l.
              let e = table.same in
              let q = all.period i (omega (arith, l, e)) in
              let t = all.stands q.0 q.1 in
              let r = t.inside in
              from_zero_at q.0 y t.rising (omega (arith, r, n, e)) (was_asked (safely method) (from_zero (part q.0 y)) (s q.0 q.1).signs asked) i q.2 q.3));
        }

-- a sheet leaves each buffer as long as it was
pub room_after : (x y : List Float) (method : ConvexMonotone) (p : Piece) (b : Buffers) → RoomFor x b → RoomFor x (after_piece x y method p b)
room_after x y method p b r = by (piece_verdict x y method p b)
  where
    frame : Frame
    frame = sheet_frame method p.left p.right p.start

    by : (v : Verdict) → RoomFor x (judged v Err b (record { answer = Ok (end_of p.right (tail_of (part p x) (part p y) frame)); buffers = after p.from (part p x) (part p y) frame b })).buffers
    by (Err q) = r
    by (Ok tt) =
        rw (
          length_overlay p.from (length (part p x)) (node_at (part p x) (part p y) frame) b.nodes,
          length_overlay p.from (length (part p x) - 1) (tag_at (part p x) (part p y) frame) b.tags,
          length_overlay (slot_count * p.from) (slot_count * (length (part p x) - 1)) (slot_at (part p x) (part p y) frame) b.slots,
        )
        r

-- one after the other, each on what those before it left
module _ (x y : List Float) (method : ConvexMonotone) (table : Table x y) where
  all_taken : (ps : List Piece) (b : Buffers) → RoomFor x b → ((p : Piece) → One p ps → (c : Buffers) → RoomFor x c → piece_verdict x y method p c ≡ Ok tt) →
      all_sheets (answers_of x y method ps b) ≡ true
  unfolding answers_of all_sheets
  all_taken [] b r h = refl
  all_taken (p ∷ ps) b r h = rw (h p (inl refl) b r, all_taken ps (after_piece x y method p b) (room_after x y method p b r) (λ q o. h q (inr o)))

  each_taken : (ps : List Piece) (b : Buffers) → RoomFor x b → all_sheets (answers_of x y method ps b) ≡ true → (p : Piece) → One p ps →
      (c : Buffers) × RoomFor x c × (piece_verdict x y method p c ≡ Ok tt)
  unfolding answers_of all_sheets
  each_taken [] b r h p o = absurd o
  each_taken (q ∷ ps) b r h p (inl e) =
      let (here, _) = and_split (is_sheet (piece_outcome x y method q b).answer) (all_sheets (answers_of x y method ps (after_piece x y method q b))) h in
      (b, r, ap (λ (s : Piece). piece_verdict x y method s b) e ∙ sheet_taken x y method q b here)
  each_taken (q ∷ ps) b r h p (inr o) =
      let (_, onward) = and_split (is_sheet (piece_outcome x y method q b).answer) (all_sheets (answers_of x y method ps (after_piece x y method q b))) h in
      each_taken ps (after_piece x y method q b) (room_after x y method q b r) onward p o

  module _ (ps : List Piece) (all : Covers (length x - 1) ps) where
    -- no sheet of a sound table is refused
    pub taken : Sound x y method → (p : Piece) → One p ps → (c : Buffers) → RoomFor x c → piece_verdict x y method p c ≡ Ok tt
    taken s p o c r = piece_accepted x y method c table r p (all.stands p o) (all.given p o) (sound_part x y method table s p (all.stands p o))

    -- the sheets are all accepted exactly when the whole is, whatever nodes and totals they are given
    pub together : (b : Buffers) → RoomFor x b → all_sheets (answers_of x y method ps b) ≡ is_curve (whole_outcome x y method b).answer
    unfolding curve_of
    together b r = by (whole_verdict x y method b) refl
      where
        sheets : Bool
        sheets = all_sheets (answers_of x y method ps b)

        sound_if : sheets ≡ true → Sound x y method
        sound_if h =
            sound_whole x y method table ps all
            (λ p o.
            let (c, s, e) = each_taken ps b r h p o in
            piece_sound x y method c table s p (all.stands p o) (all.given p o) e)

        is_curve_lem : whole_verdict x y method b ≡ Ok tt → is_curve (whole_outcome x y method b).answer ≡ true
        is_curve_lem e = rw e

        no_curve : (q : Refusal) → whole_verdict x y method b ≡ Err q → is_curve (whole_outcome x y method b).answer ≡ false
        no_curve q e = rw e

        not_all : (q : Refusal) → whole_verdict x y method b ≡ Err q → (v : Bool) → sheets ≡ v → sheets ≡ false
        not_all q e false h = h
        not_all q e true h = never (is_curve_lem (whole_accepted x y method b table r (sound_if h))) (no_curve q e)

        by : (v : Verdict) → whole_verdict x y method b ≡ v → sheets ≡ is_curve (whole_outcome x y method b).answer
        by (Ok tt) e = all_taken ps b r (taken (whole_sound x y method b table r e)) ∙ sym (is_curve_lem e)
        by (Err q) e = not_all q e sheets refl ∙ sym (no_curve q e)

-- Demand 3 of the functions that run: both statements of `specs/SameCurve.antt` hold of the contracts of `build` and `sheet` as the checker reads them.
use Rattle.curve.specs.Curve.{Built}
use Rattle.std.specs.Prelude.{None, Option}
use Prim.Native.Nat.{ℕ, ◌+◌, ◌-◌, ◌*◌, ◌≤◌, ◌<◌}
use native.Mathlib.Omega.{arith}
use mathlib.Core.Bool.{Bool, false}
use mathlib.Core.List.{List, [], ◌∷◌, map}
use mathlib.Core.Logic.{◌⊎◌, inl, inr}
use mathlib.Core.Path.{◌≡◌, refl, sym, ap, ◌∙◌}
use contract.Lifetimes
use borrow.Fn.World
use borrow.Fn.Kinds as K
use denote.Triple.Clauses
use lib.Ieee.{Float}
use lib.ListN.{length}
use Rattle.numbers.specs.Overlay.{overlay}
use Rattle.numbers.specs.Sizes.{slot_count}
use Rattle.table.specs.Buffers.{Buffers, Outcome, buffers, outcome}
use Rattle.table.specs.Table.{node_at, End}
use Rattle.table.specs.declared.method.ConvexMonotone.{ConvexMonotone}
use Rattle.table.specs.declared.ends.Seam.{Seam}
use Rattle.assembly.specs.Sections.{tag_at, slot_at, tail_of}
use Rattle.assembly.specs.declared.sections.Tail.{Tail}
use Rattle.curve.specs.Build.{build_outcome}
use Rattle.curve.proofs.Accepted.{accepted_room}
use Rattle.curve.specs.contracts.build.build
use Rattle.curve.proofs.build.build.Kinds as build-kinds
use Rattle.curve.proofs.build.build.Reads as build-reads
use Rattle.sheets.specs.Pieces.{Piece, whole, part}
use Rattle.sheets.specs.SameCurve.{CutTable, Call, piece_of, One, is_curve, tail_in, is_sheet, all_sheets, handed, answer_to, Calls, SameCurve, TakenFrom, SameAnywhere}
use Rattle.sheets.specs.Sheet.{sheet_outcome, SheetBuilt}
use Rattle.sheets.specs.Steps.{Fair}
use Rattle.sheets.proofs.Alike.{points}
use Rattle.sheets.proofs.Cuts.{covered, fair, map_one}
use Rattle.sheets.proofs.Parts.{sheet_room}
use Rattle.sheets.proofs.SameCurve.{after_one, same_answer, answering, after_whole, whole_answer, same_curve, same_answers}
use Rattle.sheets.proofs.Strokes.{Stretch, stroke, stroke_in, stroke_out, stroke_length, from_start}
use Rattle.sheets.proofs.Together.{Table, piece_outcome, after_piece, answers_of, after_all, sheet_taken, whole_taken, together}
use Rattle.sheets.specs.contracts.sheet.sheet
use Rattle.sheets.proofs.sheet.sheet.Kinds as sheet-kinds
use Rattle.sheets.proofs.sheet.sheet.Reads as sheet-reads

-- what `build` and `sheet` leave, of arguments that are the same
same_build : (x x' y y' : List Float) (m m' : ConvexMonotone) (h h' : Bool) (s s' : Option Seam) (b b' : Buffers) → x ≡ x' → y ≡ y' → m ≡ m' → h ≡ h' → s ≡ s' → b ≡ b' →
    build_outcome x y m h s b ≡ build_outcome x' y' m' h' s' b'
same_build x x' y y' m m' h h' s s' b b' ex ey em eh es eb = rw (ex, ey, em, eh, es, eb)

same_sheet : (x x' y y' : List Float) (m m' : ConvexMonotone) (l l' r r' : End) (s s' : Float) (p p' : ℕ) (b b' : Buffers) →
    x ≡ x' → y ≡ y' → m ≡ m' → l ≡ l' → r ≡ r' → s ≡ s' → p ≡ p' → b ≡ b' → sheet_outcome x y m l r s p b ≡ sheet_outcome x' y' m' l' r' s' p' b'
same_sheet x x' y y' m m' l l' r r' s s' p p' b b' ex ey em el er es ep eb = rw (ex, ey, em, el, er, es, ep, eb)

-- a call of `build`: some lifetimes, arguments with these values, and an outcome that its contract allows
pub record BuildCall (x y : List Float) (method : ConvexMonotone) (hold : Bool) (joint : Option Seam) (b : Buffers) (o : Outcome Built) : Type 0 where
  pub lifetimes : Lifetimes.Lfts 5
  pub args : World.ArgsD build.signature lifetimes
  pub answer : World.ResD build.signature lifetimes
  pub exit : Clauses.AtExit (K.ended_of 5 build-kinds.ps build-kinds.r) lifetimes
  pub allowed : build-reads.Post lifetimes args answer exit
  pub asked : let (knots, (averages, (settings, (held, (seamed, (nodes, (tags, (slots, _)))))))) = args in
      (knots.now ≡ x) × (averages.now ≡ y) × (settings ≡ method) × (held ≡ hold) × (seamed ≡ joint) × (buffers nodes.now tags.now slots.now ≡ b)
  pub leaves : let (_, (_, (_, (_, (_, (nodes, (tags, (slots, _)))))))) = exit in o ≡ outcome answer nodes.now tags.now slots.now

-- a call of `sheet`
pub record SheetCall (x y : List Float) (method : ConvexMonotone) (l r : End) (start : Float) (place : ℕ) (b : Buffers) (o : Outcome SheetBuilt) : Type 0 where
  pub lifetimes : Lifetimes.Lfts 5
  pub args : World.ArgsD sheet.signature lifetimes
  pub answer : World.ResD sheet.signature lifetimes
  pub exit : Clauses.AtExit (K.ended_of 5 sheet-kinds.ps sheet-kinds.r) lifetimes
  pub allowed : sheet-reads.Post lifetimes args answer exit
  pub asked : let (knots, (averages, (settings, (left, (right, (total, (from, (nodes, (tags, (slots, _)))))))))) = args in
      (knots.now ≡ x) × (averages.now ≡ y) × (settings ≡ method) × (left ≡ l) × (right ≡ r) × (total ≡ start) × (from ≡ place)
      × (buffers nodes.now tags.now slots.now ≡ b)
  pub leaves : let (_, (_, (_, (_, (_, (_, (_, (nodes, (tags, (slots, _)))))))))) = exit in o ≡ outcome answer nodes.now tags.now slots.now

-- what they answer and leave is what the definitions say
built : (x y : List Float) (method : ConvexMonotone) (hold : Bool) (joint : Option Seam) (b : Buffers) (o : Outcome Built) → BuildCall x y method hold joint b o → o ≡ build_outcome x y method hold joint b
built x y method hold joint b o s =
    let (knots, averages, settings, held, seamed, lent) = s.asked in
    s.leaves ∙ s.allowed ∙ same_build _ _ _ _ _ _ _ _ _ _ _ _ knots averages settings held seamed lent

sheeted : (x y : List Float) (method : ConvexMonotone) (l r : End) (start : Float) (place : ℕ) (b : Buffers) (o : Outcome SheetBuilt) → SheetCall x y method l r start place b o →
    o ≡ sheet_outcome x y method l r start place b
sheeted x y method l r start place b o s =
    let (knots, averages, settings, left, right, total, from, lent) = s.asked in
    s.leaves ∙ s.allowed ∙ same_sheet _ _ _ _ _ _ _ _ _ _ _ _ _ _ _ _ knots averages settings left right total from lent

module _ (x y : List Float) (method : ConvexMonotone) (cuts : List ℕ) (t : CutTable x y cuts) where
  abbrev n : ℕ
  n = length x

  table : Table x y
  table = record { same = t.same; low = t.low }

  -- calls one after the other
  run : (calls : List Call) (b : Buffers) (answers : List SheetBuilt) (c : Buffers) → Calls BuildCall SheetCall x y method cuts calls b answers c →
      (answers ≡ answers_of x y method (map (piece_of n cuts) calls) b) × (c ≡ after_all x y method (map (piece_of n cuts) calls) b)
  unfolding answers_of after_all
  run [] b [] c e = (refl, e)
  run [] b (a ∷ more) c e = absurd e
  run (q ∷ qs) b [] c e = absurd e
  run (q ∷ qs) b (a ∷ more) c (d, here, onward) =
      let o = sheeted _ _ _ _ _ _ _ _ _ here in
      let (as-answered, as-left) = run qs d more c onward in
      let ea : a ≡ (piece_outcome x y method (piece_of n cuts q) b).answer = ap (λ (z : Outcome SheetBuilt). z.answer) o in
      let ed : d ≡ after_piece x y method (piece_of n cuts q) b = ap (λ (z : Outcome SheetBuilt). z.buffers) o in (
        ap (λ (z : SheetBuilt). z ∷ more) ea ∙ ap (λ (l : List SheetBuilt). (piece_outcome x y method (piece_of n cuts q) b).answer ∷ l)
            (as-answered ∙ ap (answers_of x y method (map (piece_of n cuts) qs)) ed),
        as-left ∙ ap (after_all x y method (map (piece_of n cuts) qs)) ed,
      )

  -- the answers by call and by sheet
  by_call : (tail : Tail) (calls : List Call) → map (answering x y method table tail) (map (piece_of n cuts) calls) ≡ map (answer_to x y method cuts tail) calls
  by_call tail [] = refl
  by_call tail (q ∷ qs) = ap (λ (l : List SheetBuilt). answer_to x y method cuts tail q ∷ l) (by_call tail qs)

pub demand_3 : SameCurve BuildCall SheetCall
demand_3 x y method cuts t b room w bw calls complete answers c run-them =
    let ew = built x y method false None b w bw in
    let (ea, ec) = run x y method cuts t calls b answers c run-them in
    let ps = map (piece_of (length x) cuts) calls in
    let all = covered x y cuts t calls complete in (
      ap all_sheets ea ∙ together x y method (table x y method cuts t) ps all b room ∙ sym (ap (λ (o : Outcome Built). is_curve o.answer) ew),
      (λ own accepted.
          let taken = whole_taken x y method b (sym (ap (λ (o : Outcome Built). is_curve o.answer) ew) ∙ accepted) in
          let fairs : (p : Piece) → One p ps → Fair x y method p =
          λ p o.
          let (q, one, e) = map_one (piece_of (length x) cuts) calls p o in
          rw (e, own q one) (fair x y cuts t method q.sheet (complete.only q one)) in
          let tail : tail_in w.answer ≡ tail_of x y (whole method) =
          ap (λ (o : Outcome Built). tail_in o.answer) ew ∙ ap tail_in (whole_answer x y method (table x y method cuts t) b taken) in (
            ec ∙ same_curve x y method (table x y method cuts t) b taken room ps all fairs ∙ sym (ap (λ (o : Outcome Built). o.buffers) ew),
            ea ∙ same_answers x y method (table x y method cuts t) b taken room ps all fairs
                ∙ by_call x y method cuts t (tail_of x y (whole method)) calls
                ∙ ap (λ (z : Tail). map (answer_to x y method cuts z) calls) (sym tail),
          )),
    )

-- a stretch of one rule, in a buffer of its own and in that of the whole
module _ {A : Type 0} (g : ℕ → A) (s : Stretch) (total : ℕ) (old all : List A) where
  taken_from : s.start + s.count ≤ length old → total ≤ length all → s.start + s.count ≤ total → TakenFrom s.start s.count (overlay 0 total g all) old (stroke g s old)
  taken_from room whole_room fits = record {
    as_long = stroke_length g s old;
    inside = λ i d low high. stroke_in g d s old i room (low, high) ∙ sym (from_start g d all total i (omega (arith, high, fits)) whole_room);
    outside = λ i d away. stroke_out g d s old i (λ (has : (s.start ≤ i) × (i < s.start + s.count)). not_both i away has);
  }
    where
      not_both : (i : ℕ) → (i < s.start) ⊎ (s.start + s.count ≤ i) → (s.start ≤ i) × (i < s.start + s.count) → ⊥
      not_both i (inl u) has = let v = has.0 in omega (arith, u, v)
      not_both i (inr u) has = let v = has.1 in omega (arith, u, v)

as_taken : {A : Type 0} (place count : ℕ) (w v old new made : List A) → w ≡ v → new ≡ made → TakenFrom place count v old made → TakenFrom place count w old new
as_taken place count w v old new made e f h = rw (e, f) h

pub demand_3_anywhere : SameAnywhere BuildCall SheetCall
demand_3_anywhere x y method cuts t b w bw accepted j l c o bo answered =
    let p = piece_of (length x) cuts (handed x y method cuts j) in
    let tab = table x y method cuts t in
    let f = fair x y cuts t method j l in
    let ew = built x y method false None b w bw in
    let eo = sheeted _ _ _ _ _ _ _ _ _ bo in
    let taken = whole_taken x y method b (sym (ap (λ (z : Outcome Built). is_curve z.answer) ew) ∙ accepted) in
    let sheet-is-taken = sheet_taken x y method p c (sym (ap (λ (z : Outcome SheetBuilt). is_sheet z.answer) eo) ∙ answered) in
    let tail : tail_in w.answer ≡ tail_of x y (whole method) = ap (λ (z : Outcome Built). tail_in z.answer) ew ∙ ap tail_in (whole_answer x y method tab b taken) in
    let whole-left = ap (λ (z : Outcome Built). z.buffers) ew ∙ after_whole x y method tab b taken in
    let left = ap (λ (z : Outcome SheetBuilt). z.buffers) eo ∙ after_one x y method tab p f c sheet-is-taken in
    let all = accepted_room x y method None _ _ _ taken in
    let own = sheet_room (part p x) (part p y) method p.left p.right p.from _ _ _ sheet-is-taken in
    let count = points x y method t.low t.same p f in
    let rising = f.rising in
    let inside = f.inside in
    let low = t.low in
    let o-nodes = own.in_nodes in
    let o-tags = own.in_tags in
    let o-slots = own.in_slots in (
      ap (λ (z : Outcome SheetBuilt). z.answer) eo ∙ same_answer x y method tab p f c sheet-is-taken ∙ ap (λ (z : Tail). answer_to x y method cuts z (handed x y method cuts j)) (sym tail),
      as_taken p.from (p.to - p.from + 1) _ _ c.nodes _ _ (ap (λ (z : Buffers). z.nodes) whole-left) (ap (λ (z : Buffers). z.nodes) left)
          (taken_from (node_at x y (whole method)) (record { start = p.from; count = p.to - p.from + 1 }) (length x) c.nodes b.nodes
          (omega (arith, o-nodes, count, rising)) all.in_nodes (omega (arith, rising, inside, low))),
      as_taken p.from (p.to - p.from) _ _ c.tags _ _ (ap (λ (z : Buffers). z.tags) whole-left) (ap (λ (z : Buffers). z.tags) left)
          (taken_from (tag_at x y (whole method)) (record { start = p.from; count = p.to - p.from }) (length x - 1) c.tags b.tags
          (omega (arith, o-tags, count, rising)) all.in_tags (omega (arith, rising, inside))),
      as_taken (slot_count * p.from) (slot_count * (p.to - p.from)) _ _ c.slots _ _ (ap (λ (z : Buffers). z.slots) whole-left) (ap (λ (z : Buffers). z.slots) left)
          (taken_from (slot_at x y (whole method)) (record { start = slot_count * p.from; count = slot_count * (p.to - p.from) }) (slot_count * (length x - 1)) c.slots b.slots
          (omega (arith, o-slots, count, rising)) all.in_slots (omega (arith, rising, inside))),
    )

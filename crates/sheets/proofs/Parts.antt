-- Steps of `sheet`: the order of its refusals, and a part of a buffer that is written by itself.
use Rattle.std.specs.Prelude.{Err, Ok}
use Prim.Native.Nat.{ℕ, ◌-◌, ◌*◌, ◌/◌, ◌≤◌, ◌<◌}
use native.Mathlib.Omega.{arith}
use native.Mathlib.Nat.{le_refl, add-zero}
use mathlib.Core.Bool.{Bool, true, false, not, ◌&&◌, ◌||◌}
use mathlib.Core.List.{List, [], ◌∷◌, ◌++◌, append-nil}
use mathlib.Core.Path.{◌≡◌, refl, sym, ap, ◌∙◌}
use borrow.Author.Tests.{lt-ltb, le-ltb, eq-eqb, ltb-false, le-leb, leb-true}
use borrow.Rule.Slice.PartMut.{mid_of, post_of, put_mid, mid_len, put_same}
use lib.Dec.{ltb, leb}
use lib.Ieee.{Float}
use lib.ListN.{length, take, drop, length-drop, take-append-drop}
use lib.Seq.{take_all, drop-length}
use Rattle.numbers.specs.Overlay.{overlay}
use Rattle.numbers.specs.Sizes.{slot_count}
use Rattle.numbers.proofs.Overlay.{drop_overlay, take_overlay}
use Rattle.numbers.proofs.Every.{and_split}
use Rattle.numbers.proofs.Ways.{never, or_none}
use Rattle.refusal.specs.Refusal.{first, and_then, Verdict}
use Rattle.refusal.specs.declared.Refusal.TheVariants.{NoGivenNode, TooManyPoints, BufferTooShort, AverageBelowZero}
use Rattle.refusal.specs.declared.Refusal.{Refusal}
use Rattle.refusal.proofs.First.{next, passed, stops, goes_on, both_accept, first_append}
use Rattle.table.specs.Buffers.{Buffers, Outcome, buffers}
use Rattle.table.specs.Check.{table_tests, average_below, sign_test, no_room, room_tests}
use Rattle.table.specs.Sound.{Sound, Room}
use Rattle.table.specs.Table.{node_at, End}
use Rattle.table.specs.declared.method.ConvexMonotone.{ConvexMonotone}
use Rattle.table.specs.declared.ends.Frame.{Frame}
use Rattle.table.proofs.Sound.{sound, is_sound, room, has_room}
use Rattle.assembly.specs.Making.{size_tests, size_verdict, made_from, Made}
use Rattle.assembly.specs.Sections.{tag_at, slot_at}
use Rattle.assembly.proofs.Sizes.{only_room}
use Rattle.sheets.specs.Sheet.{none_given, numbers_tests, sheet_tests}
use Rattle.sheets.specs.Steps.{reaches, part_verdict}

-- 16 comes first, and 29 after the others
module _ (x y : List Float) (method : ConvexMonotone) (l r : End) where
  pub no_node : none_given l r ≡ true → Err NoGivenNode ≡ first (numbers_tests x y method l r)
  no_node h = rw h

  -- a sheet with a node, refused in 1 to 7, refused for a sign, and accepted
  module _ (v : Verdict) (g : none_given l r ≡ false) (e : v ≡ first (table_tests x y method)) where
    pub stopped : (q : Refusal) → v ≡ Err q → v ≡ first (numbers_tests x y method l r)
    stopped q f = rw g (stops v q (table_tests x y method) (sign_test y method ∷ []) e f)

    pub below : v ≡ Ok tt → average_below y method ≡ true → Err AverageBelowZero ≡ first (numbers_tests x y method l r)
    below f h = rw g (goes_on v _ (table_tests x y method) (sign_test y method ∷ []) e f (rw h))

    pub from_zero_lem : v ≡ Ok tt → average_below y method ≡ false → (Ok tt) ≡ first (numbers_tests x y method l r)
    from_zero_lem f h = rw g (goes_on v _ (table_tests x y method) (sign_test y method ∷ []) e f (rw h))

  pub numbers_sound : first (numbers_tests x y method l r) ≡ Ok tt → Sound x y method
  numbers_sound h =
      let (_, others) = next (none_given l r) NoGivenNode (first (table_tests x y method ++ (sign_test y method ∷ []))) h in
      let (numbers, last) = both_accept _ _ (sym (first_append (table_tests x y method) (sign_test y method ∷ [])) ∙ others) in
      let (signs, _) = passed (sign_test y method ∷ []) last in
      sound x y method numbers signs

  -- past 16, 1 to 7 and 29 only sizes are left to ask about
  module _ (place nodes tags slots : ℕ) where
    pub settled : first (numbers_tests x y method l r) ≡ Ok tt →
        first (sheet_tests x y method l r place nodes tags slots) ≡ first (room_tests (length x) (nodes - place) (tags - place) (slots - slot_count * place))
    settled h =
        first_append (numbers_tests x y method l r) (room_tests (length x) (nodes - place) (tags - place) (slots - slot_count * place))
        ∙ ap (λ (v : Verdict). and_then v (first (room_tests (length x) (nodes - place) (tags - place) (slots - slot_count * place)))) h

    pub sized : first (numbers_tests x y method l r) ≡ Ok tt →
        first (sheet_tests x y method l r place nodes tags slots) ≡ first (size_tests (length x) (length y) (nodes - place) (tags - place) (slots - slot_count * place))
    sized h =
        let s = numbers_sound h in
        settled h ∙ sym (only_room (length x) (length y) (nodes - place) (tags - place) (slots - slot_count * place) (ap not (eq-eqb (length x) (length y) s.same)) (le-ltb (length x) 2 s.low))

    both_passed : first (sheet_tests x y method l r place nodes tags slots) ≡ Ok tt →
        (first (numbers_tests x y method l r) ≡ Ok tt) × (first (room_tests (length x) (nodes - place) (tags - place) (slots - slot_count * place)) ≡ Ok tt)
    both_passed h = both_accept _ _ (sym (first_append (numbers_tests x y method l r) (room_tests (length x) (nodes - place) (tags - place) (slots - slot_count * place))) ∙ h)

    -- an accepted sheet is sound and has room; and one that is sound, has a given node and has room is accepted
    pub sheet_sound : first (sheet_tests x y method l r place nodes tags slots) ≡ Ok tt → Sound x y method
    sheet_sound h = numbers_sound (both_passed h).0

    pub sheet_room : first (sheet_tests x y method l r place nodes tags slots) ≡ Ok tt → Room (length x) (nodes - place) (tags - place) (slots - slot_count * place)
    sheet_room h = room (length x) (nodes - place) (tags - place) (slots - slot_count * place) (both_passed h).1

    pub sheet_accepts : none_given l r ≡ false → Sound x y method → Room (length x) (nodes - place) (tags - place) (slots - slot_count * place) →
        first (sheet_tests x y method l r place nodes tags slots) ≡ Ok tt
    sheet_accepts g s room = settled (rw (g, first_append (table_tests x y method) (sign_test y method ∷ []), is_sound x y method s, s.signs)) ∙ has_room (length x) (nodes - place) (tags - place) (slots - slot_count * place) room

pub too_many : (n nodes tags slots : ℕ) → 4096 < n → first (room_tests n nodes tags slots) ≡ Err TooManyPoints
too_many n nodes tags slots h = rw (lt-ltb 4096 n h)

no_room_lem : (n nodes tags slots : ℕ) → n ≤ 4096 → no_room n nodes tags slots ≡ true → first (room_tests n nodes tags slots) ≡ Err BufferTooShort
no_room_lem n nodes tags slots h e = rw (le-ltb 4096 n h, e)

-- a place within the buffers
pub record Within (place nodes tags slots : ℕ) : Type 0 where
  pub in_nodes : place ≤ nodes
  pub in_tags : place ≤ tags
  pub in_slots : slot_count * place ≤ slots

module _ (place nodes tags slots : ℕ) where
  pub within : reaches place nodes tags slots ≡ true → Within place nodes tags slots
  within h =
      let a = and_split (leb place nodes) (leb place tags && leb place (slots / slot_count)) h in
      let b = and_split (leb place tags) (leb place (slots / slot_count)) a.1 in
      let s : place ≤ slots / slot_count = leb-true place (slots / slot_count) b.1 in
      record { in_nodes = leb-true place nodes a.0; in_tags = leb-true place tags b.0; in_slots = omega (arith, s) }

  -- a place outside leaves no room for any sheet
  pub outside : (n : ℕ) → 2 ≤ n → n ≤ 4096 → reaches place nodes tags slots ≡ false →
      first (room_tests n (nodes - place) (tags - place) (slots - slot_count * place)) ≡ Err BufferTooShort
  outside n low high h = no_room_lem n (nodes - place) (tags - place) (slots - slot_count * place) high (by (no_room n (nodes - place) (tags - place) (slots - slot_count * place)) refl)
    where
      reached : no_room n (nodes - place) (tags - place) (slots - slot_count * place) ≡ false → reaches place nodes tags slots ≡ true
      reached e =
          let r = or_none (ltb (nodes - place) n) (ltb (tags - place) (n - 1) || ltb (slots - slot_count * place) (slot_count * (n - 1))) e in
          let q = or_none (ltb (tags - place) (n - 1)) (ltb (slots - slot_count * place) (slot_count * (n - 1))) r.1 in
          let a : n ≤ nodes - place = ltb-false (nodes - place) n r.0 in
          let b : n - 1 ≤ tags - place = ltb-false (tags - place) (n - 1) q.0 in
          let c : slot_count * (n - 1) ≤ slots - slot_count * place = ltb-false (slots - slot_count * place) (slot_count * (n - 1)) q.1 in
          rw (le-leb place nodes (omega arith), le-leb place tags (omega arith), le-leb place (slots / slot_count) (omega arith))

      by : (b : Bool) → no_room n (nodes - place) (tags - place) (slots - slot_count * place) ≡ b → no_room n (nodes - place) (tags - place) (slots - slot_count * place) ≡ true
      by true e = e
      by false e = never (reached e) h

-- the part of a buffer from place a on, by itself and put back
module _ {A : Type 0} (a : ℕ) (xs : List A) (h : a ≤ length xs) where
  rest : mid_of a (length xs - a) xs ≡ drop a xs
  rest = take_all (length xs - a) (drop a xs) (rw (length-drop a xs) (le_refl (length xs - a)))

  beyond : post_of a (length xs - a) xs ≡ []
  beyond = ap (λ (n : ℕ). drop n (drop a xs)) (sym (length-drop a xs)) ∙ drop-length (drop a xs)

  put_back : (n : ℕ) (f : ℕ → A) → put_mid a (length xs - a) xs (overlay 0 n f (mid_of a (length xs - a) xs)) ≡ overlay a n f xs
  put_back n f =
      ap (λ (l : List A). take a xs ++ (overlay 0 n f l ++ post_of a (length xs - a) xs)) rest
      ∙ ap (λ (l : List A). take a xs ++ (overlay 0 n f (drop a xs) ++ l)) beyond
      ∙ ap (λ (l : List A). take a xs ++ l) (append-nil (overlay 0 n f (drop a xs)))
      ∙ ap (λ (l : List A). take a xs ++ l) (sym (drop_overlay a 0 n f xs) ∙ ap (λ (p : ℕ). drop a (overlay p n f xs)) (add-zero a))
      ∙ ap (λ (l : List A). l ++ drop a (overlay a n f xs)) (sym (take_overlay a n f xs))
      ∙ take-append-drop a (overlay a n f xs)

  pub part_length : length (mid_of a (length xs - a) xs) ≡ length xs - a
  part_length = mid_len a (length xs) xs (le_refl (length xs))

-- what is made in the parts of the buffers from a place on is made in the buffers from that place on
module _ (place : ℕ) (x y : List Float) (frame : Frame) (b : Buffers) (w : Within place (length b.nodes) (length b.tags) (length b.slots)) where
  abbrev parts_of : Buffers
  parts_of = buffers (mid_of place (length b.nodes - place) b.nodes) (mid_of place (length b.tags - place) b.tags) (mid_of (slot_count * place) (length b.slots - slot_count * place) b.slots)

  abbrev back_in : Buffers → Buffers
  back_in c =
      buffers (put_mid place (length b.nodes - place) b.nodes c.nodes) (put_mid place (length b.tags - place) b.tags c.tags)
      (put_mid (slot_count * place) (length b.slots - slot_count * place) b.slots c.slots)

  abbrev back : Outcome Made → Outcome Made
  back o = record { answer = o.answer; buffers = back_in o.buffers }

  by_verdict : (v : Verdict) → back (made_from 0 x y frame v parts_of) ≡ made_from place x y frame v b
  by_verdict (Ok tt) =
      rw (
        put_back place b.nodes w.in_nodes (length x) (node_at x y frame),
        put_back place b.tags w.in_tags (length x - 1) (tag_at x y frame),
        put_back (slot_count * place) b.slots w.in_slots (slot_count * (length x - 1)) (slot_at x y frame),
      )
  by_verdict (Err r) =
      rw (
        put_same place (length b.nodes - place) b.nodes,
        put_same place (length b.tags - place) b.tags,
        put_same (slot_count * place) (length b.slots - slot_count * place) b.slots,
      )

  same_verdict : size_verdict x y parts_of ≡ part_verdict place x y b
  same_verdict =
      rw (part_length place b.nodes w.in_nodes, part_length place b.tags w.in_tags, part_length (slot_count * place) b.slots w.in_slots)

  pub made_in_part : (o : Outcome Made) → o ≡ made_from 0 x y frame (size_verdict x y parts_of) parts_of → back o ≡ made_from place x y frame (part_verdict place x y b) b
  made_in_part o e = ap back e ∙ by_verdict (size_verdict x y parts_of) ∙ ap (λ (v : Verdict). made_from place x y frame v b) same_verdict

-- The text from its lines, and a table from an order's bytes.
use Rattle.refusal.specs.declared.Refusal.TheVariants.{BufferTooShort}
use Rattle.std.specs.Prelude.{Err, None, Ok}
use Prim.Native.Nat.{ℕ, zero, suc, ◌+◌, ◌-◌, ◌*◌, ◌/◌, ◌%◌, ◌≤◌, ◌<◌}
use native.Mathlib.Omega.{arith}
use native.Mathlib.Nat.{zero-add}
use mathlib.Core.Bool.{Bool, true, false, cond, ◌&&◌}
use mathlib.Core.List.{List, [], ◌∷◌, ◌++◌}
use mathlib.Core.Path.{◌≡◌, refl, sym, ap, ◌∙◌}
use borrow.Author.Tests.{lt-ltb, le-ltb, leb-true}
use lib.Dec.{ltb, leb, eqb}
use lib.Ieee.{Float}
use lib.ListN.{length, set, take}
use lib.Seq.{take-suc-set}
use Rattle.numbers.specs.OneOutcome.{pair}
use Rattle.numbers.specs.Overlay.{overlay}
use Rattle.numbers.proofs.Every.{and_split}
use Rattle.numbers.proofs.OneOutcome.{both}
use Rattle.numbers.proofs.Ways.{never}
use Rattle.numbers.proofs.Overlay.{overlay_same, overlay_join, length_overlay}
use Rattle.refusal.specs.Refusal.{number}
use Rattle.refusal.specs.declared.Refusal.TheVariants.{OrderMalformed}
use Rattle.refusal.specs.declared.Refusal.{Refusal}
use Rattle.curve.specs.Curve.{with_extrapolation, Built}
use Rattle.curve.specs.declared.curve.Curve.{Curve}
use Rattle.order.specs.Answer.{line_of, line_byte, length_for, byte_for, text_for, ordered, room, text_of, answered, OrderAnswer}
use Rattle.order.specs.Form.{number_at, header_of, points_of, queries_of, well_formed, points, queries, hold, allow, method, knots, averages, list_of}
use Rattle.order.specs.Text.{build_byte, query_byte}
use Rattle.order.specs.declared.asking.Line.{Line}
use Rattle.table.specs.declared.method.ConvexMonotone.{ConvexMonotone}
use Rattle.table.specs.Buffers.{Buffers, Outcome}
use Rattle.curve.specs.Build.{build_outcome}

-- one more line
module _ (o : List ℕ) (from : ℕ) (x : List Float) (c : Curve) (tags : List ℕ) (slots : List Float) where
  abbrev L : ℕ → ℕ
  L = line_byte o from x c tags slots

  line_same : (k : ℕ) (l : Line) → l ≡ line_of x c tags slots (number_at o (from + 8 * k)) → (i : ℕ) → i < 39 → query_byte l.refusal l.value l.primitive i ≡ L (39 * k + i)
  line_same k l e i h =
      let d : (39 * k + i) / 39 ≡ k = omega arith in
      let r : (39 * k + i) % 39 ≡ i = omega arith in
      rw (d, r, e)

  pub line_more : (k at : ℕ) (l : Line) (old now new : List ℕ) → at ≡ 10 + 39 * k → l ≡ line_of x c tags slots (number_at o (from + 8 * k)) → now ≡ overlay 10 (39 * k) L old →
      new ≡ overlay at 39 (query_byte l.refusal l.value l.primitive) now → new ≡ overlay 10 (39 * (k + 1)) L old
  line_more k at l old now new ea el en ew =
      let s : 39 * k + 39 ≡ 39 * (k + 1) = omega arith in
      ew
      ∙ ap (λ (p : ℕ). overlay p 39 (query_byte l.refusal l.value l.primitive) now) ea
      ∙ overlay_same (10 + 39 * k) 39 (query_byte l.refusal l.value l.primitive) (λ i. L (39 * k + i)) now (line_same k l el)
      ∙ ap (overlay (10 + 39 * k) 39 (λ i. L (39 * k + i))) en
      ∙ overlay_join 10 (39 * k) 39 L old
      ∙ ap (λ (n : ℕ). overlay 10 n L old) s

-- the build's line, and then the queries'
module _ (o : List ℕ) (x : List Float) (tags : List ℕ) (slots : List Float) (c : Curve) (d : Curve) where
  abbrev F : ℕ → ℕ
  F = byte_for o x tags slots (Ok c)

  head_same : (i : ℕ) → i < 10 → build_byte 0 c.sections i ≡ F i
  head_same i h = rw (lt-ltb i 10 h)

  tail_same : (e : d ≡ record { sections = c.sections; held = c.held; extrapolates = allow o; tail = c.tail }) (from : ℕ) → from ≡ 20 + 16 * points o → (i : ℕ) → line_byte o from x d tags slots i ≡ F (10 + i)
  tail_same e from f i =
      let j : 10 + i - 10 ≡ i = omega arith in
      rw (le-ltb (10 + i) 10 (omega arith), j, e, f)

  pub whole_text : (e : d ≡ record { sections = c.sections; held = c.held; extrapolates = allow o; tail = c.tail }) (from n m : ℕ) (old mid new : List ℕ) → from ≡ 20 + 16 * points o → n ≡ queries o → m ≡ c.sections →
      mid ≡ overlay 0 10 (build_byte 0 m) old → new ≡ overlay 10 (39 * n) (line_byte o from x d tags slots) mid → new ≡ overlay 0 (10 + 39 * queries o) F old
  whole_text e from n m old mid new ef en em eo ew =
      ew
      ∙ overlay_same 10 (39 * n) (line_byte o from x d tags slots) (λ i. F (10 + i)) mid (λ i l. tail_same e from ef i)
      ∙ ap (overlay 10 (39 * n) (λ i. F (10 + i))) (eo ∙ ap (λ (k : ℕ). overlay 0 10 (build_byte 0 k) old) em ∙ overlay_same 0 10 (build_byte 0 c.sections) F old head_same)
      ∙ overlay_join 0 10 (39 * n) F old
      ∙ ap (λ (k : ℕ). overlay 0 (10 + 39 * k) F old) en

-- what a well-formed order has
pub record Counts (o : List ℕ) : Type 0 where
  pub few_points : points o ≤ 200
  pub few_queries : queries o ≤ 64

pub counts : (o : List ℕ) → well_formed o ≡ true → Counts o
counts o h =
    let h' = header_of o in
    let size = eqb (length o) (20 + 16 * points_of h' + 8 * queries_of h') in
    let a = and_split (eqb (h' / 0x100_0000 % 32) 0) (leb (points_of h') 200 && (leb (queries_of h') 64 && size)) h in
    let b = and_split (leb (points_of h') 200) (leb (queries_of h') 64 && size) a.1 in
    let c = and_split (leb (queries_of h') 64) size b.1 in
    record { few_points = leb-true (points o) 200 b.0; few_queries = leb-true (queries o) 64 c.0 }

-- the first n entries of a buffer that was filled so far
pub filled : {A : Type 0} (n : ℕ) (f : ℕ → A) (xs : List A) → n ≤ length xs → take n (overlay 0 n f xs) ≡ list_of n f
unfolding overlay list_of
filled zero f xs h = refl
filled (suc n) f xs h =
    ap (λ (k : ℕ). take (suc n) (set (overlay 0 n f xs) k (f n))) (zero-add n)
    ∙ take-suc-set (overlay 0 n f xs) n (f n) (rw (length_overlay 0 n f xs) (omega arith))
    ∙ ap (λ l. l ++ (f n ∷ [])) (filled n f xs (omega arith))

-- by what was built
module _ (o : List ℕ) (x : List Float) (made : Outcome Built) where
  pub refused_text : (r : Refusal) (n : ℕ) (old new : List ℕ) → made.answer ≡ Err r → n ≡ number r → new ≡ overlay 0 10 (build_byte n 0) old → pair 10 new ≡ text_for o x made old
  refused_text r n old new h e f = rw h (ap (pair 10) (f ∙ ap (λ (k : ℕ). overlay 0 10 (build_byte k 0) old) e))

  pub curve_text : (c d : Curve) (from n m : ℕ) (old mid new : List ℕ) → made.answer ≡ Ok c → d ≡ with_extrapolation c (allow o) → from ≡ 20 + 16 * points o → n ≡ queries o →
      m ≡ c.sections → mid ≡ overlay 0 10 (build_byte 0 m) old → new ≡ overlay 10 (39 * n) (line_byte o from x d made.buffers.tags made.buffers.slots) mid →
      pair (10 + 39 * n) new ≡ text_for o x made old
  curve_text c d from n m old mid new h ed ef en em eo ew =
      rw h (both (ap (λ (k : ℕ). 10 + 39 * k) en) (whole_text o x made.buffers.tags made.buffers.slots c d ed from n m old mid new ef en em eo ew))

-- a build by the order's own settings
pub told_text : (o : List ℕ) (x y : List Float) (b : Buffers) (m : ConvexMonotone) (h : Bool) (made : Outcome Built) (old : List ℕ) (p : ℕ × List ℕ) → m ≡ method o → h ≡ hold o →
    made ≡ build_outcome x y m h None b → p ≡ text_for o x made old → p ≡ text_for o x (ordered o x y b) old
told_text o x y b m h made old p em eh eb ep =
    ep ∙ ap (λ (q : Outcome Built). text_for o x q old) (eb ∙ ap (λ (k : ConvexMonotone). build_outcome x y k h None b) em ∙ ap (λ (k : Bool). build_outcome x y (method o) k None b) eh)

-- the table as it was read
module _ (o : List ℕ) (n : ℕ) (old new : List Float) (e : n ≡ points o) (h : points o ≤ length old) where
  pub read_knots : new ≡ overlay 0 n (λ i. number_at o (20 + 8 * i)) old → take n new ≡ knots o
  read_knots w = ap (take n) w ∙ ap (λ (k : ℕ). take k (overlay 0 k (λ i. number_at o (20 + 8 * i)) old)) e ∙ filled (points o) (λ i. number_at o (20 + 8 * i)) old h

  pub read_averages : new ≡ overlay 0 n (λ i. number_at o (20 + 8 * n + 8 * i)) old → take n new ≡ averages o
  read_averages w =
      ap (take n) w ∙ ap (λ (k : ℕ). take k (overlay 0 k (λ i. number_at o (20 + 8 * k + 8 * i)) old)) e ∙ filled (points o) (λ i. number_at o (20 + 8 * points o + 8 * i)) old h

pub form_text : (o : List ℕ) (x y : List Float) (b : Buffers) (old : List ℕ) (p : ℕ × List ℕ) → x ≡ knots o → y ≡ averages o → p ≡ text_for o x (ordered o x y b) old →
    p ≡ text_for o (knots o) (ordered o (knots o) (averages o) b) old
form_text o x y b old p ex ey ep =
    ep ∙ ap (λ (k : List Float). text_for o k (ordered o k y b) old) ex ∙ ap (λ (k : List Float). text_for o (knots o) (ordered o (knots o) k b) old) ey

-- the answer, by the room and the form
module _ (o out : List ℕ) where
  pub too_short : ltb (length out) 2506 ≡ true → pair (Err BufferTooShort) out ≡ answered o out
  too_short h = rw h

  pub malformed : (new : List ℕ) (n : ℕ) → ltb (length out) 2506 ≡ false → well_formed o ≡ false → n ≡ number OrderMalformed → new ≡ overlay 0 10 (build_byte n 0) out →
      pair (Ok 10) new ≡ answered o out
  malformed new n h f g e = rw (h, f) (ap (pair (Ok 10)) (e ∙ ap (λ (m : ℕ). overlay 0 10 (build_byte m 0) out) g))

  abbrev as_text : ℕ × List ℕ → OrderAnswer × List ℕ
  as_text p = pair (Ok p.0) p.1

  pub well : (p : ℕ × List ℕ) → ltb (length out) 2506 ≡ false → well_formed o ≡ true → p ≡ text_for o (knots o) (ordered o (knots o) (averages o) room) out → as_text p ≡ answered o out
  well p h f e = ap as_text e ∙ rw (h, f)

-- no text is longer than the longest
few_lines : (o : List ℕ) (b : Built) → queries o ≤ 64 → length_for o b ≤ 2506
few_lines o (Ok c) h = omega (arith, h)
few_lines o (Err r) h = omega arith

text_fits : (o out : List ℕ) → ((text_of o out).0 ≤ 2506) × (length (text_of o out).1 ≡ length out)
text_fits o out = by (well_formed o) (λ h. (counts o h).few_queries)
  where
    made : Outcome Built
    made = ordered o (knots o) (averages o) room

    by : (t : Bool) → (t ≡ true → queries o ≤ 64) →
        ((cond t (text_for o (knots o) made out) (pair 10 (overlay 0 10 (build_byte 17 0) out))).0 ≤ 2506)
        × (length (cond t (text_for o (knots o) made out) (pair 10 (overlay 0 10 (build_byte 17 0) out))).1 ≡ length out)
    by true h = (few_lines o made.answer (h refl), length_overlay 0 (length_for o made.answer) (byte_for o (knots o) made.buffers.tags made.buffers.slots made.answer) out)
    by false h = (omega arith, length_overlay 0 10 (build_byte 17 0) out)

abbrev in_text : ℕ → OrderAnswer → ℕ
in_text d (Ok n) = n
in_text d (Err r) = d

-- a text stands wholly in the buffer that it was written to
pub holds_text : (o out : List ℕ) (p : OrderAnswer × List ℕ) (n : ℕ) → length out ≡ 2506 → p ≡ answered o out → p.0 ≡ Ok n → n ≤ length p.1
holds_text o out p n l e h = by (ltb (length out) 2506) (le-ltb (length out) 2506 (omega (arith, l))) (ap (in_text 0) (sym h ∙ ap (λ (q : OrderAnswer × List ℕ). q.0) e)) (ap (λ (q : OrderAnswer × List ℕ). length q.1) e)
  where
    answer : Bool → OrderAnswer × List ℕ
    answer b = cond b (pair (Err BufferTooShort) out) (pair (Ok (text_of o out).0) (text_of o out).1)

    by : (b : Bool) → b ≡ false → n ≡ in_text 0 (answer b).0 → length p.1 ≡ length (answer b).1 → n ≤ length p.1
    by true z u v = never refl z
    by false z u v = let (few, whole) = text_fits o out in omega (arith, u, v, few, whole, l)

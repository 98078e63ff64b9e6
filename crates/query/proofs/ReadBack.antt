-- What a build writes, a query reads: an accepted table passes the tests that a query makes of it, and the section that it finds is the one that was made.
use Rattle.std.specs.Prelude.{Ok, Option, Some}
use Prim.Native.Nat.{ℕ, ◌-◌, ◌*◌, ◌≤◌}
use native.Mathlib.Omega.{arith}
use mathlib.Core.Bool.{Bool, true, false, cond}
use mathlib.Core.List.{List}
use mathlib.Core.Path.{◌≡◌, refl, sym, ap}
use borrow.Author.Tests.{le-ltb}
use lib.Ieee.{Float, le, ne}
use lib.ListN.{length}
use Rattle.numbers.specs.Marks.{mark}
use Rattle.numbers.specs.Sizes.{slot_count}
use Rattle.numbers.proofs.Overlay.{length_overlay}
use Rattle.section.specs.declared.section.Section.{Section}
use Rattle.refusal.specs.Refusal.{first}
use Rattle.table.specs.Buffers.{Buffers}
use Rattle.table.specs.Sound.{Sound, Room}
use Rattle.table.specs.Table.{at}
use Rattle.table.specs.declared.method.ConvexMonotone.{ConvexMonotone}
use Rattle.table.specs.declared.ends.Frame.{Frame}
use Rattle.table.specs.declared.ends.Seam.{Seam}
use Rattle.assembly.specs.Making.{tags_after, slots_after, after}
use Rattle.assembly.specs.Sections.{section_at, tag_at, slot_at}
use Rattle.assembly.proofs.ReadBack.{record_read_back}
use Rattle.curve.specs.Build.{build_verdict}
use Rattle.curve.specs.declared.curve.Curve.{Curve}
use Rattle.curve.proofs.Accepted.{accepted_sound, accepted_room}
use Rattle.query.specs.Query.{query_tests, outside, place_of, tail_section, covering, covered_at, ask, Covered}
use Rattle.query.proofs.Answers.{found_here}
use Rattle.query.proofs.Walk.{place_le}

-- one of two sections is found, if the second is found where it is read
either_found : (b : Bool) (s t : Section) (f : Option Section) → f ≡ Some t → cond b (Some s) f ≡ Some (cond b s t)
either_found true s t f e = refl
either_found false s t f e = e

-- an accepted table passes what a query asks of it, if the buffers keep their lengths
pub query_accepted : (x y : List Float) (method : ConvexMonotone) (nodes tags slots new_tags new_slots : ℕ) (curve : Curve) (q : Float) →
    Sound x y method → Room (length x) nodes tags slots → new_tags ≡ tags → new_slots ≡ slots →
    ne q q ≡ false → outside x curve q ≡ false → first (query_tests x curve new_tags new_slots q) ≡ Ok tt
query_accepted x y method nodes tags slots new_tags new_slots curve q s r e f number inside =
    let n = length x in
    rw (
      le-ltb n 2 s.low,
      s.knots,
      s.rise,
      le-ltb 4096 n r.high,
      e,
      f,
      le-ltb tags (n - 1) r.in_tags,
      le-ltb slots (slot_count * (n - 1)) r.in_slots,
      number,
      inside,
    )

module _ (x y : List Float) (frame : Frame) where
  -- the section that answers a query: the tail's from the last knot on, else the one at the query's place
  abbrev pub answering : Curve → Float → Section
  answering curve q = cond (le (at x (length x - 1)) q) (tail_section curve) (section_at x y frame (place_of x q))

  -- a query finds that section in the records of a built curve
  pub covering_read_back : (curve : Curve) (tags : List ℕ) (slots : List Float) (q : Float) → 2 ≤ length x → length x - 1 ≤ length tags →
      slot_count * (length x - 1) ≤ length slots →
      covering x curve (tags_after 0 x y frame tags) (slots_after 0 x y frame slots) q ≡ Some (answering curve q)
  unfolding covering
  covering_read_back curve tags slots q low h g =
      either_found (le (at x (length x - 1)) q) (tail_section curve) (section_at x y frame (place_of x q)) _
      (record_read_back x y frame (place_of x q) tags slots (omega (arith, place_le x q)) h g)

  -- a query of a built curve that is a number, and inside the knots or allowed outside them, is never refused: that section answers it
  module _ (method : ConvexMonotone) (seam : Option Seam) (b : Buffers) (curve : Curve) (q : Float) (h : build_verdict x y method seam b ≡ Ok tt) (number : ne q q ≡ false)
      (inside : outside x curve q ≡ false) where
    pub query_of_built : covered_at x curve (after 0 x y frame b).tags (after 0 x y frame b).slots q ≡ Ok (answering curve q)
    query_of_built =
        let s = accepted_sound x y method seam (length b.nodes) (length b.tags) (length b.slots) h in
        let r = accepted_room x y method seam (length b.nodes) (length b.tags) (length b.slots) h in
        let ok =
        query_accepted x y method (length b.nodes) (length b.tags) (length b.slots) (length (after 0 x y frame b).tags) (length (after 0 x y frame b).slots) curve q s r
        (length_overlay 0 (length x - 1) (tag_at x y frame) b.tags)
        (length_overlay 0 (slot_count * (length x - 1)) (slot_at x y frame) b.slots)
        number inside in
        sym (found_here _ (answering curve q) _ ok (covering_read_back curve b.tags b.slots q s.low r.in_tags r.in_slots))

    -- whatever is asked of a built curve, its value or its total at the query, is what that section gives
    pub asked_of_built : (f : Section → Float) → ask f (covered_at x curve (after 0 x y frame b).tags (after 0 x y frame b).slots q) ≡ Ok (mark (f (answering curve q)))
    asked_of_built f = ap (λ (k : Covered). ask f k) query_of_built

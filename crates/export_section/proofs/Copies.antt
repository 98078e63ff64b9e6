-- A record across the boundary: what is returned and written of it, case by case.
use Rattle.std.specs.Prelude.{Err, None, Ok, Option, Some}
use Prim.Native.Nat.{ℕ, ◌-◌, ◌*◌, ◌≤◌, ◌<◌}
use native.Mathlib.Omega.{arith}
use mathlib.Core.Bool.{Bool, true, false, ◌||◌}
use mathlib.Core.List.{List, [], ◌∷◌}
use mathlib.Core.Path.{◌≡◌, refl, sym, ap, ◌∙◌}
use borrow.Author.Tests.{ltb-false, lt-ltb, le-ltb, lt-leb}
use lib.Dec.{ltb, leb}
use lib.Ieee.{Float}
use lib.ListN.{length, set, take, drop, length-take, length-drop}
use Rattle.numbers.specs.Marks.{mark}
use Rattle.numbers.specs.declared.Marked.{Marked}
use Rattle.numbers.specs.OneOutcome.{pair}
use Rattle.numbers.specs.Sizes.{slot_count}
use Rattle.section.specs.Section as section
use Rattle.section.specs.declared.section.Section.{Section}
use Rattle.record.specs.Reader.{record_verdict, record_part}
use Rattle.refusal.specs.Refusal.{first, number, verdict_number, and_then, ◌⇒◌, Verdict}
use Rattle.refusal.specs.declared.Refusal.{Refusal}
use Rattle.refusal.specs.declared.Refusal.TheVariants.{TooFewPoints, TooManyPoints, BufferTooShort, RecordNotLegal}
use Rattle.record.proofs.InRange.{in_range}
use Rattle.export_section.specs.Records.{copied, copy_verdict, copied_by, answered, section_into}

-- a record's own answers and their marks: no room for the one or the other, not legal, or written
module _ (old : List Float) (marks : List Bool) where
  abbrev unroomy : Bool
  unroomy = ltb (length old) 3 || ltb (length marks) 2

  pub enough : 3 ≤ length old → 2 ≤ length marks → unroomy ≡ false
  enough g h = rw (le-ltb (length old) 3 g, le-ltb (length marks) 2 h)

module _ (f : Option Section) (x : Float) (old : List Float) (marks : List Bool) where
  section_short : (n : ℕ) → unroomy old marks ≡ true → n ≡ number BufferTooShort → answered n old marks ≡ section_into f x old marks
  section_short n h k = rw (h, k)

  pub answers_short : (n : ℕ) → length old < 3 → n ≡ number BufferTooShort → answered n old marks ≡ section_into f x old marks
  answers_short n h k = section_short n (rw (lt-ltb (length old) 3 h)) k

  pub marks_short : (n : ℕ) → 3 ≤ length old → length marks < 2 → n ≡ number BufferTooShort → answered n old marks ≡ section_into f x old marks
  marks_short n g h k = section_short n (rw (le-ltb (length old) 3 g, lt-ltb (length marks) 2 h)) k

  pub section_illegal : (n : ℕ) → unroomy old marks ≡ false → f ≡ None → n ≡ number RecordNotLegal → answered n old marks ≡ section_into f x old marks
  section_illegal n h e k = rw (h, e, k)

  pub section_written : (s : Section) (v p : Marked) (w : Float) → unroomy old marks ≡ false → f ≡ Some s → v ≡ mark (section.value s x) → p ≡ mark (section.primitive s x) →
      w ≡ section.f_next s → answered 0 (set (set (set old 0 v.number) 1 p.number) 2 w) (set (set marks 0 v.finite) 1 p.finite) ≡ section_into f x old marks
  section_written s v p w h e ev ep ew = rw (h, e, ev, ep, ew)

or_none_right : (b : Bool) → (b || false) ≡ b
or_none_right true = refl
or_none_right false = refl

-- a refusal of the curve's own comes before that of a short copy, and a number past the last after it
module _ (points : ℕ) (slots : List Float) (place : ℕ) (into : List Float) where
  -- with room for the copy, the tests are those of the record
  pub roomy : ltb (length into) slot_count ≡ false → copy_verdict points slots place into ≡ record_verdict points (length slots) place
  roomy h =
      ap (λ (short : Bool). first ((ltb points 2 ⇒ TooFewPoints) ∷ (ltb 4096 points ⇒ TooManyPoints) ∷ (short ⇒ BufferTooShort) ∷ (leb (points - 1) place ⇒ RecordNotLegal) ∷ []))
      (ap (λ (b : Bool). ltb (length slots) (slot_count * (points - 1)) || b) h ∙ or_none_right (ltb (length slots) (slot_count * (points - 1))))

  abbrev short_of : Verdict → ℕ
  short_of v = verdict_number (and_then v (Err BufferTooShort))

  by_tests : (few many short past beyond : Bool) → (few ≡ false → past ≡ false) →
      pair (short_of (first ((few ⇒ TooFewPoints) ∷ (many ⇒ TooManyPoints) ∷ (short ⇒ BufferTooShort) ∷ (past ⇒ RecordNotLegal) ∷ []))) into
      ≡ copied_by points slots place into (first ((few ⇒ TooFewPoints) ∷ (many ⇒ TooManyPoints) ∷ (short || true ⇒ BufferTooShort) ∷ (beyond ⇒ RecordNotLegal) ∷ []))
  by_tests true many short past beyond h = refl
  by_tests false true short past beyond h = refl
  by_tests false false true past beyond h = refl
  by_tests false false false past beyond h = rw (h refl)

  -- with none, the first section's verdict tells all that comes before
  pub unroomed : ltb (length into) slot_count ≡ true → (n : ℕ) → n ≡ short_of (record_verdict points (length slots) 0) → pair n into ≡ copied_by points slots place into (copy_verdict points slots place into)
  unroomed h n e =
      ap (λ (m : ℕ). pair m into) e
      ∙ by_tests (ltb points 2) (ltb 4096 points) (ltb (length slots) (slot_count * (points - 1))) (leb (points - 1) 0) (leb (points - 1) place)
      (λ f. let low = ltb-false points 2 f in lt-leb (points - 1) 0 (omega (arith, low)))
      ∙ rw h

  pub copy_refused : (v : Verdict) (r : Refusal) (n : ℕ) → v ≡ Err r → n ≡ number r → pair n into ≡ copied_by points slots place into v
  copy_refused v r n e h = rw (e, h)

  pub copy_written : (v w : Verdict) (part new : List Float) → v ≡ Ok tt → w ≡ Ok tt → part ≡ record_part w slots place → new ≡ copied slot_count part into →
      pair 0 new ≡ copied_by points slots place into v
  copy_written v w part new e f p h = rw (e, h, p, f)

  -- an accepted record has all its slots
  pub part_long : (w : Verdict) (part : List Float) → w ≡ Ok tt → w ≡ record_verdict points (length slots) place → part ≡ record_part w slots place → slot_count ≤ length part
  part_long w part e f p =
      let i = in_range points (length slots) place (sym f ∙ e) in
      let q : part ≡ take slot_count (drop (slot_count * place) slots) = rw e at p in
      rw q (simp (length-take, length-drop) (omega (arith, i.low, i.fits, i.below)))

-- What is said of a query's answer, case by case, and where a short slice for it is refused.
use Rattle.std.specs.Prelude.{Err, Ok}
use Prim.Native.Nat.{ℕ}
use mathlib.Core.Bool.{Bool, true, false, cond}
use mathlib.Core.List.{List, [], ◌∷◌, ◌++◌}
use mathlib.Core.Path.{◌≡◌, refl, sym, ap, ◌∙◌}
use lib.Dec.{ltb}
use lib.Ieee.{Float}
use lib.ListN.{length, set}
use Rattle.numbers.specs.OneOutcome.{pair}
use Rattle.refusal.specs.Refusal.{number, verdict_number, first, and_then, ◌⇒◌, Verdict}
use Rattle.refusal.specs.declared.Refusal.{Refusal}
use Rattle.refusal.specs.declared.Refusal.TheVariants.{BufferTooShort}
use Rattle.refusal.proofs.First.{first_append}
use Rattle.section.specs.declared.section.Section.{Section}
use Rattle.curve.specs.declared.curve.Curve.{Curve}
use Rattle.query.specs.Many.{many_tests}
use Rattle.query.specs.Query.{curve_tests, point_tests, query_tests, covering, covered_of, covered_at, ask, number_in, verdict_in, answer_by, QueryAnswer}
use Rattle.export_query.specs.Asking.{asked_by, left_of, left_by, answer_into}

-- a query's answer, by what refuses it: refused, or written
module _ (k : QueryAnswer) (old : List Float) where
  by_verdict : (v : Verdict) → v ≡ verdict_in k → pair (answer_by v (number_in k)).refusal (left_of v (number_in k) old) ≡ left_by k old
  by_verdict v e = ap (λ (w : Verdict). pair (answer_by w (number_in k)).refusal (left_of w (number_in k) old)) e

  pub query_refused : (v : Verdict) (r : Refusal) (n : ℕ) → v ≡ verdict_in k → v ≡ Err r → n ≡ number r → pair n old ≡ left_by k old
  query_refused v r n e f g = ap (λ (m : ℕ). pair m old) g ∙ by_verdict (Err r) (sym f ∙ e)

  pub query_written : (v : Verdict) (m : Float) → v ≡ verdict_in k → v ≡ Ok tt → m ≡ number_in k → pair 0 (set old 0 m) ≡ left_by k old
  query_written v m e f g = ap (λ (w : Float). pair 0 (set old 0 w)) g ∙ by_verdict (Ok tt) (sym f ∙ e)

-- the tests of a curve, then of the slice
module _ (x : List Float) (tags slots : ℕ) where
  tested : (short : Bool) → first (curve_tests x tags slots ++ ((short ⇒ BufferTooShort) ∷ [])) ≡ and_then (first (curve_tests x tags slots)) (cond short (Err BufferTooShort) (Ok tt))
  tested short = first_append (curve_tests x tags slots) ((short ⇒ BufferTooShort) ∷ [])

  pub short_curve : (v : Verdict) (r : Refusal) (n : ℕ) → v ≡ first (curve_tests x tags slots) → v ≡ Err r → n ≡ number r → n ≡ verdict_number (first (many_tests x tags slots 1 0))
  short_curve v r n e f g = g ∙ sym (ap verdict_number (tested true ∙ ap (λ (w : Verdict). and_then w (Err BufferTooShort)) (sym e ∙ f)))

  pub short_slice : (v : Verdict) (n : ℕ) → v ≡ first (curve_tests x tags slots) → v ≡ Ok tt → n ≡ number BufferTooShort → n ≡ verdict_number (first (many_tests x tags slots 1 0))
  short_slice v n e f g = g ∙ sym (ap verdict_number (tested true ∙ ap (λ (w : Verdict). and_then w (Err BufferTooShort)) (sym e ∙ f)))

module _ (f : Section → Float) (x : List Float) (curve : Curve) (tags : List ℕ) (slots : List Float) (q : Float) (old : List Float) where
  abbrev asked : QueryAnswer
  asked = ask f (covered_at x curve tags slots q)

  abbrev curve's : Verdict
  curve's = first (curve_tests x (length tags) (length slots))

  refused_by : (v : Verdict) (k : QueryAnswer) → pair (verdict_number (and_then v (Err BufferTooShort))) old ≡ left_by (asked_by (and_then v (Err BufferTooShort)) k) old
  refused_by (Ok tt) k = refl
  refused_by (Err r) k = refl

  -- with no room, the refusal is one of the curve's own, or that of the slice
  pub no_room_lem : ltb (length old) 1 ≡ true → (n : ℕ) → n ≡ verdict_number (first (many_tests x (length tags) (length slots) 1 0)) →
      pair n old ≡ answer_into x (length tags) (length slots) asked old
  no_room_lem h n e =
      ap (λ (m : ℕ). pair m old) (e ∙ ap verdict_number (tested x (length tags) (length slots) true))
      ∙ refused_by curve's asked
      ∙ sym (ap (λ (v : Verdict). left_by (asked_by v asked) old) (ap (λ (short : Bool). first (curve_tests x (length tags) (length slots) ++ ((short ⇒ BufferTooShort) ∷ []))) h ∙ tested x (length tags) (length slots) true))

  -- with room, a query's own refusals begin with the curve's
  own : (v w : Verdict) (k : _) → asked_by (and_then v (Ok tt)) (ask f (covered_of (and_then v w) k)) ≡ ask f (covered_of (and_then v w) k)
  own (Ok tt) w k = refl
  own (Err r) w k = refl

  own_of : (u v w : Verdict) (k : _) → u ≡ and_then v w → asked_by (and_then v (Ok tt)) (ask f (covered_of u k)) ≡ ask f (covered_of u k)
  own_of u v w k e = rw e (own v w k)

  pub has_room : ltb (length old) 1 ≡ false → (k : QueryAnswer) (o : ℕ × List Float) → k ≡ asked → o ≡ left_by k old → o ≡ answer_into x (length tags) (length slots) asked old
  has_room h k o e g =
      g
      ∙ ap (λ (z : QueryAnswer). left_by z old)
      (e
      ∙ sym
      (ap (λ (v : Verdict). asked_by v asked) (ap (λ (short : Bool). first (curve_tests x (length tags) (length slots) ++ ((short ⇒ BufferTooShort) ∷ []))) h ∙ tested x (length tags) (length slots) false)
      ∙ own_of (first (query_tests x curve (length tags) (length slots) q)) curve's (first (point_tests x curve q)) (covering x curve tags slots q)
      (first_append (curve_tests x (length tags) (length slots)) (point_tests x curve q))))

-- What a growing curve carries over, case by case.
use Rattle.curve.specs.Curve.{Built}
use Rattle.std.specs.Prelude.{Err, None, Ok, Option, Some}
use Prim.Native.Nat.{ℕ, ◌+◌, ◌-◌, ◌*◌, ◌≤◌, ◌<◌}
use native.Mathlib.Omega.{arith}
use mathlib.Core.Bool.{true, false, ◌||◌}
use mathlib.Core.List.{List}
use mathlib.Core.Logic.{⊎_elim}
use mathlib.Core.Path.{◌≡◌, sym, ◌∙◌}
use borrow.Author.Tests.{eq-eqb, ne_eqb, ltb-false}
use lib.Dec.{eqb, ltb}
use lib.Ieee.{Float}
use lib.ListN.{length, take, drop, get_or}
use Rattle.numbers.specs.Sizes.{slot_count}
use Rattle.numbers.proofs.Ways.{or_none, lt_or_le}
use Rattle.section.specs.Section.{f_next}
use Rattle.section.specs.declared.section.Section.{Section}
use Rattle.record.specs.Reading.{read_section}
use Rattle.refusal.specs.declared.Refusal.{Refusal}
use Rattle.refusal.specs.declared.Refusal.TheVariants.{NoPreviousCurve, RecordNotLegal}
use Rattle.table.specs.Buffers.{Buffers, Outcome}
use Rattle.table.specs.declared.ends.Seam.{Seam}
use Rattle.growth.specs.Growth.{first_window, seam_after, beyond, seam_of, carried_at, grown, Previous, Carried}
use Rattle.curve.specs.declared.curve.Curve.{Curve}

-- the window, computed without the sum
pub no_window : (n l : ℕ) → n ≡ 0 → false ≡ first_window n l
no_window n l e = sym (ne_eqb n (l + 1) (λ z. omega arith))

pub same_window : (n l : ℕ) → (n ≡ 0 → ⊥) → eqb (n - 1) l ≡ first_window n l
same_window n l p =
    ⊎_elim
    (λ (h : n - 1 < l). ne_eqb (n - 1) l (λ z. omega arith) ∙ sym (ne_eqb n (l + 1) (λ z. omega arith)))
    (λ (h : l ≤ n - 1).
    ⊎_elim
    (λ (g : l < n - 1). ne_eqb (n - 1) l (λ z. omega arith) ∙ sym (ne_eqb n (l + 1) (λ z. omega arith)))
    (λ (g : n - 1 ≤ l). eq-eqb (n - 1) l (omega arith) ∙ sym (eq-eqb n (l + 1) (omega arith)))
    (lt_or_le l (n - 1)))
    (lt_or_le (n - 1) l)

pub record Holds (sections tags slots : ℕ) : Type 0 where
  pub few : sections ≤ 4095
  pub in_tags : sections ≤ tags
  pub in_slots : slot_count * sections ≤ slots

pub holds_all : (n tags slots : ℕ) → beyond n tags slots ≡ false → Holds n tags slots
holds_all n tags slots h =
    let r = or_none (ltb 4095 n) (ltb tags n || ltb slots (slot_count * n)) h in
    let q = or_none (ltb tags n) (ltb slots (slot_count * n)) r.1 in
    record { few = ltb-false 4095 n r.0; in_tags = ltb-false tags n q.0; in_slots = ltb-false slots (slot_count * n) q.1 }

-- the record of the last section that is kept
module _ (count : ℕ) (tags : List ℕ) (slots : List Float) where
  pub after_none : count ≡ 0 → Ok None ≡ seam_after count tags slots
  unfolding seam_after
  after_none h = simp (eq-eqb count 0 h)

  pub after_section : (s : Section) (v : Float) → (count ≡ 0 → ⊥) → read_section (get_or tags (count - 1) 0) (take slot_count (drop (slot_count * (count - 1)) slots)) ≡ Some s →
      v ≡ f_next s → Ok (Some (record { count = count; node = v })) ≡ seam_after count tags slots
  unfolding seam_after
  after_section s v p e f = simp (ne_eqb count 0 p) (rw (e, f))

  pub after_illegal : (count ≡ 0 → ⊥) → read_section (get_or tags (count - 1) 0) (take slot_count (drop (slot_count * (count - 1)) slots)) ≡ None →
      Err RecordNotLegal ≡ seam_after count tags slots
  unfolding seam_after
  after_illegal p e = simp (ne_eqb count 0 p) (rw e)

module _ (curve : Curve) (tags : List ℕ) (slots : List Float) where
  pub of_none : curve.sections ≡ 0 → Err NoPreviousCurve ≡ seam_of curve tags slots
  unfolding seam_of
  of_none h = simp (eq-eqb curve.sections 0 h)

  pub of_beyond : (curve.sections ≡ 0 → ⊥) → beyond curve.sections (length tags) (length slots) ≡ true → Err RecordNotLegal ≡ seam_of curve tags slots
  unfolding seam_of
  of_beyond p h = rw (ne_eqb curve.sections 0 p, h)

  pub of_held : (k : Carried) → (curve.sections ≡ 0 → ⊥) → beyond curve.sections (length tags) (length slots) ≡ false → curve.held ≡ true →
      k ≡ seam_after (curve.sections - 1) tags slots → k ≡ seam_of curve tags slots
  unfolding seam_of
  of_held k p h g e = rw (ne_eqb curve.sections 0 p, h, g) e

  pub of_free : (k : Carried) → (curve.sections ≡ 0 → ⊥) → beyond curve.sections (length tags) (length slots) ≡ false → curve.held ≡ false →
      k ≡ seam_after curve.sections tags slots → k ≡ seam_of curve tags slots
  unfolding seam_of
  of_free k p h g e = rw (ne_eqb curve.sections 0 p, h, g) e

module _ (n l : ℕ) (p : Previous) (tags : List ℕ) (slots : List Float) where
  pub in_window : first_window n l ≡ true → Ok None ≡ carried_at n l p tags slots
  in_window h = rw h

  pub past_none : first_window n l ≡ false → p ≡ None → Err NoPreviousCurve ≡ carried_at n l p tags slots
  past_none h e = rw (h, e)

  pub past_curve : (c : Curve) (k : Carried) → first_window n l ≡ false → p ≡ Some c → k ≡ seam_of c tags slots → k ≡ carried_at n l p tags slots
  past_curve c k h e f = rw (h, e) f

-- an outcome, by what is carried
pub not_grown : (k : Carried) (r : Refusal) (old : Buffers) (f : Option Seam → Outcome Built) → k ≡ Err r → record { answer = Err r; buffers = old } ≡ grown k old f
not_grown k r old f e = rw e

pub is_grown : (k : Carried) (s : Option Seam) (old : Buffers) (f : Option Seam → Outcome Built) (o : Outcome Built) → k ≡ Ok s → o ≡ f s → o ≡ grown k old f
is_grown k s old f o e g = rw e g

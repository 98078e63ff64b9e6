-- The contracts in the documents' numbers: a record is refused by 15 exactly where it is not legal, and its number by 21 exactly where nothing else refuses it
-- and the formula's number is not finite.
use Prim.Native.Nat.{ℕ}
use mathlib.Core.Bool.{Bool, true, false, cond}
use mathlib.Core.List.{List}
use mathlib.Core.Path.{◌≡◌, refl, sym, ap, ◌∙◌}
use lib.Ieee.{Float}
use Rattle.std.specs.Prelude.{Option, Some, None}
use Rattle.numbers.specs.declared.Marked.{Marked}
use Rattle.numbers.specs.OneOutcome.{Follows, pair}
use Rattle.numbers.specs.Words.{zero, finite}
use Rattle.refusal.specs.Refusal.{number}
use Rattle.refusal.specs.declared.Refusal.TheVariants.{RecordNotLegal, NotFinite}
use Rattle.section.specs.Section.{value, primitive}
use Rattle.section.specs.declared.section.Section.{Section}
use Rattle.record.specs.Legal.{legal_record}
use Rattle.record.specs.Number as number_of_lem
use Rattle.record.specs.Reading.{is_section, read_section, found_in_numbers}
use Rattle.record.proofs.Legal.{legal_is_read}
use Rattle.record.proofs.number.value_in.Reads as value_in
use Rattle.record.proofs.number.primitive_in.Reads as primitive-in
use Rattle.record.proofs.reading.read_section.Reads as read-section

-- 0 or 15
abbrev pub refusal_of : ℕ → List Float → ℕ
refusal_of tag slots = cond (legal_record tag slots) 0 (number RecordNotLegal)

by_found : (f : Option Section) → (found_in_numbers f).0 ≡ cond (is_section f) 0 (number RecordNotLegal)
by_found (Some s) = refl
by_found None = refl

-- 15, then 21 for a number, then 0
abbrev pub number_refusal : ℕ → List Float → Float → ℕ
number_refusal tag slots number-given = cond (legal_record tag slots) (cond (finite number-given) 0 (number NotFinite)) (number RecordNotLegal)

by_mark : (v : Float) (b : Bool) → (cond b (pair 0 v) (pair (number NotFinite) zero)).0 ≡ cond b 0 (number NotFinite)
by_mark v true = refl
by_mark v false = refl

asked : (f : Section → Float) (k : Option Section) → let a = number_of_lem.answer_in f k in
    (number_of_lem.answer_in_numbers a).0 ≡ cond (is_section k) (cond (finite (number_of_lem.or_zero a)) 0 (number NotFinite)) (number RecordNotLegal)
asked f (Some s) = by_mark (f s) (finite (f s))
asked f None = refl

told : (f : Section → Float) (tag : ℕ) (slots : List Float) (r : Option Marked) → r ≡ number_of_lem.answer_in f (read_section tag slots) →
    (number_of_lem.answer_in_numbers r).0 ≡ number_refusal tag slots (number_of_lem.or_zero r)
told f tag slots r p =
    ap (λ (k : Option Marked). (number_of_lem.answer_in_numbers k).0) p
    ∙ asked f (read_section tag slots)
    ∙ ap (λ (legal : Bool). cond legal (cond (finite (number_of_lem.or_zero (number_of_lem.answer_in f (read_section tag slots)))) 0 (number NotFinite)) (number RecordNotLegal)) (legal_is_read tag slots)
    ∙ ap (λ (k : Option Marked). number_refusal tag slots (number_of_lem.or_zero k)) (sym p)

read : (tag : ℕ) (slots : List Float) → (found_in_numbers (read_section tag slots)).0 ≡ refusal_of tag slots
read tag slots = by_found (read_section tag slots) ∙ ap (λ (legal : Bool). cond legal 0 (number RecordNotLegal)) (legal_is_read tag slots)

pub read_section_in_numbers : Follows read-section.Post (λ κ a r s. let (tag, (slots, _)) = a in (found_in_numbers r).0 ≡ refusal_of tag slots.now)
read_section_in_numbers κ (tag, (slots, _)) r s p = ap (λ (k : Option Section). (found_in_numbers k).0) p ∙ read tag slots.now

pub value_in_in_numbers : Follows value_in.Post (λ κ a r s. let (tag, (slots, _)) = a in (number_of_lem.answer_in_numbers r).0 ≡ number_refusal tag slots.now (number_of_lem.or_zero r))
value_in_in_numbers κ (tag, (slots, (q, _))) r s p = told (λ z. value z q) tag slots.now r p

pub primitive_in_in_numbers : Follows primitive-in.Post (λ κ a r s. let (tag, (slots, _)) = a in (number_of_lem.answer_in_numbers r).0 ≡ number_refusal tag slots.now (number_of_lem.or_zero r))
primitive_in_in_numbers κ (tag, (slots, (q, _))) r s p = told (λ z. primitive z q) tag slots.now r p

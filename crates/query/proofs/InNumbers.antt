-- The contracts in the documents' numbers: a query is refused by the first of 4, 5, 7, 10, 11, 12, 13, then by 15 for the record that covers it, and then by
-- 21 exactly where its formula's number is not finite.
use Rattle.std.specs.Prelude.{Err, None, Ok, Option, Some}
use mathlib.Core.Bool.{cond}
use mathlib.Core.Path.{◌≡◌, refl, ap, ◌∙◌}
use lib.Ieee.{Float}
use lib.ListN.{length}
use Rattle.numbers.specs.OneOutcome.{Follows}
use Rattle.numbers.specs.Words.{finite}
use Rattle.refusal.specs.Refusal.{first, number, verdict_number, and_then, Verdict}
use Rattle.refusal.specs.declared.Refusal.TheVariants.{RecordNotLegal, NotFinite, DerivativeAsked}
use Rattle.section.specs.Section.{value, primitive}
use Rattle.section.specs.declared.section.Section.{Section}
use Rattle.query.specs.Query.{query_tests, covering, covered_of, ask, number_in, verdict_in, answer_by, answer_in_numbers, QueryAnswer}
use Rattle.query.proofs.answer.derivative.Reads as derivative
use Rattle.query.proofs.single.value.Reads as value-at
use Rattle.query.proofs.single.primitive.Reads as primitive-at

-- 15, then 21, or nothing
abbrev pub finitely : Float → Verdict
finitely v = cond (finite v) (Ok tt) (Err NotFinite)

abbrev pub legally : (Section → Float) → Option Section → Verdict
legally f (Some s) = finitely (f s)
legally f None = Err RecordNotLegal

by_verdict : (v : Verdict) (n : Float) → (answer_by v n).refusal ≡ verdict_number v
by_verdict (Ok tt) n = refl
by_verdict (Err r) n = refl

asked : (f : Section → Float) (v : Verdict) (k : Option Section) → verdict_in (ask f (covered_of v k)) ≡ and_then v (legally f k)
asked f (Ok tt) (Some s) = refl
asked f (Ok tt) None = refl
asked f (Err r) k = refl

told : (f : Section → Float) (v : Verdict) (k : Option Section) (r : QueryAnswer) → r ≡ ask f (covered_of v k) → (answer_in_numbers r).refusal ≡ verdict_number (and_then v (legally f k))
told f v k r p =
    ap (λ (k : QueryAnswer). (answer_in_numbers k).refusal) p ∙ by_verdict (verdict_in (ask f (covered_of v k))) (number_in (ask f (covered_of v k))) ∙ ap verdict_number (asked f v k)

pub value_in_numbers : Follows value-at.Post (λ κ a r s. let (xs, (curve, (tags, (slots, (q, _))))) = a in (answer_in_numbers r).refusal ≡ verdict_number (and_then (first (query_tests xs.now curve (length tags.now) (length slots.now) q)) (legally (λ z. value z q) (covering xs.now curve tags.now slots.now q))))
value_in_numbers κ (xs, (curve, (tags, (slots, (q, _))))) r s p =
    told (λ z. value z q) (first (query_tests xs.now curve (length tags.now) (length slots.now) q)) (covering xs.now curve tags.now slots.now q) r p

pub primitive_in_numbers : Follows primitive-at.Post (λ κ a r s. let (xs, (curve, (tags, (slots, (q, _))))) = a in (answer_in_numbers r).refusal ≡ verdict_number (and_then (first (query_tests xs.now curve (length tags.now) (length slots.now) q)) (legally (λ z. primitive z q) (covering xs.now curve tags.now slots.now q))))
primitive_in_numbers κ (xs, (curve, (tags, (slots, (q, _))))) r s p =
    told (λ z. primitive z q) (first (query_tests xs.now curve (length tags.now) (length slots.now) q)) (covering xs.now curve tags.now slots.now q) r p

pub derivative_in_numbers : Follows derivative.Post (λ κ a r s. (answer_in_numbers r).refusal ≡ number DerivativeAsked)
derivative_in_numbers κ a r s p = ap (λ (k : QueryAnswer). (answer_in_numbers k).refusal) p

-- Any two outcomes that a contract allows are the same, of each contract as the checker reads it.
use mathlib.Core.Path.{◌∙◌, sym}
use Rattle.numbers.specs.OneOutcome.{OneAnswer, OneOutcome}
use Rattle.record.proofs.knots.knot_prices.Reads as knot-prices
use Rattle.record.proofs.legality.legal_in.Reads as legal-in
use Rattle.record.proofs.number.or_zero.Reads as or-zero
use Rattle.record.proofs.number.value_in.Reads as value_in
use Rattle.record.proofs.number.primitive_in.Reads as primitive-in
use Rattle.record.proofs.ordinary.is_ordinary.Reads as is-ordinary
use Rattle.record.proofs.reader.record_verdict.Reads as record-verdict
use Rattle.record.proofs.reader.record_slots.Reads as record-slots
use Rattle.record.proofs.reading.read_section.Reads as read-section
use Rattle.record.proofs.slots.slots_of.Reads as slots-of
use Rattle.record.proofs.tag.is_split.Reads as is-split
use Rattle.record.proofs.tag.tag_of.Reads as tag_of
use Rattle.record.proofs.unusual.is_unusual.Reads as is-unusual

pub knot_prices_unique : OneAnswer knot-prices.Post
knot_prices_unique κ a r₁ r₂ s t p q = p ∙ sym q

pub legal_in_unique : OneAnswer legal-in.Post
legal_in_unique κ a r₁ r₂ s t p q = p ∙ sym q

pub or_zero_unique : OneAnswer or-zero.Post
or_zero_unique κ a r₁ r₂ s t p q = p ∙ sym q

pub value_in_unique : OneAnswer value_in.Post
value_in_unique κ a r₁ r₂ s t p q = p ∙ sym q

pub primitive_in_unique : OneAnswer primitive-in.Post
primitive_in_unique κ a r₁ r₂ s t p q = p ∙ sym q

pub is_ordinary_unique : OneAnswer is-ordinary.Post
is_ordinary_unique κ a r₁ r₂ s t p q = p ∙ sym q

pub record_verdict_unique : OneAnswer record-verdict.Post
record_verdict_unique κ a r₁ r₂ s t p q = p ∙ sym q

pub record_slots_unique : OneOutcome record-slots.Post (λ κ r s. r.now)
record_slots_unique κ a r₁ r₂ s t p q = p ∙ sym q

pub read_section_unique : OneAnswer read-section.Post
read_section_unique κ a r₁ r₂ s t p q = p ∙ sym q

pub slots_of_unique : OneAnswer slots-of.Post
slots_of_unique κ a r₁ r₂ s t p q = p ∙ sym q

pub tag_of_unique : OneAnswer tag_of.Post
tag_of_unique κ a r₁ r₂ s t p q = p ∙ sym q

pub is_split_unique : OneAnswer is-split.Post
is_split_unique κ a r₁ r₂ s t p q = p ∙ sym q

pub is_unusual_unique : OneAnswer is-unusual.Post
is_unusual_unique κ a r₁ r₂ s t p q = p ∙ sym q

-- Any two outcomes that a contract allows are the same, of each contract as the checker reads it.
use mathlib.Core.Path.{◌∙◌, sym}
use Rattle.numbers.specs.OneOutcome.{OneAnswer}
use Rattle.refusal.proofs.Refusal.number.Reads as refusal-number
use Rattle.refusal.proofs.verdict_number.Reads as verdict-number

pub refusal_number_unique : OneAnswer refusal-number.Post
refusal_number_unique κ a r₁ r₂ s t p q = p ∙ sym q

pub verdict_number_unique : OneAnswer verdict-number.Post
verdict_number_unique κ a r₁ r₂ s t p q = p ∙ sym q

-- Any two outcomes that a contract allows are the same, of each contract as the checker reads it.
use mathlib.Core.Path.{◌∙◌, sym}
use Rattle.numbers.specs.OneOutcome.{OneAnswer}
use Rattle.choice.proofs.section_of.Reads as section-of

pub section_of_unique : OneAnswer section-of.Post
section_of_unique κ a r₁ r₂ s t p q = p ∙ sym q

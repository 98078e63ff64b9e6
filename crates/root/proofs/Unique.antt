-- Any two outcomes that a contract allows are the same, of each contract as the checker reads it.
use mathlib.Core.Path.{◌∙◌, sym}
use Rattle.numbers.specs.OneOutcome.{OneAnswer}
use Rattle.root.proofs.sqrt.Reads as sqrt

pub sqrt_unique : OneAnswer sqrt.Post
sqrt_unique κ a r₁ r₂ s t p q = p ∙ sym q

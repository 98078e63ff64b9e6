-- Any two outcomes that a contract allows are the same, of each contract as the checker reads it.
use mathlib.Core.Path.{◌∙◌, sym}
use Rattle.numbers.specs.OneOutcome.{OneAnswer}
use Rattle.numbers.proofs.is_finite.Reads as is_finite
use Rattle.numbers.proofs.mark.Reads as mark
use Rattle.numbers.proofs.is_ordinary_size.Reads as is-ordinary-size
use Rattle.numbers.proofs.is_ordinary_divisor.Reads as is-ordinary-divisor
use Rattle.numbers.proofs.abs.Reads as abs
use Rattle.numbers.proofs.of_bits.Reads as of-bits
use Rattle.numbers.proofs.to_bits.Reads as to_bits

pub is_finite_unique : OneAnswer is_finite.Post
is_finite_unique κ a r₁ r₂ s t p q = p ∙ sym q

pub mark_unique : OneAnswer mark.Post
mark_unique κ a r₁ r₂ s t p q = p ∙ sym q

pub is_ordinary_size_unique : OneAnswer is-ordinary-size.Post
is_ordinary_size_unique κ a r₁ r₂ s t p q = p ∙ sym q

pub is_ordinary_divisor_unique : OneAnswer is-ordinary-divisor.Post
is_ordinary_divisor_unique κ a r₁ r₂ s t p q = p ∙ sym q

pub abs_unique : OneAnswer abs.Post
abs_unique κ a r₁ r₂ s t p q = p ∙ sym q

pub of_bits_unique : OneAnswer of-bits.Post
of_bits_unique κ a r₁ r₂ s t p q = p ∙ sym q

pub to_bits_unique : OneAnswer to_bits.Post
to_bits_unique κ a r₁ r₂ s t p q = p ∙ sym q

-- Any two outcomes that a contract allows are the same, of each contract as the checker reads it.
use mathlib.Core.Path.{◌∙◌, sym}
use Rattle.numbers.specs.OneOutcome.{OneAnswer}
use Rattle.quadratic.proofs.quadratic.Quadratic.new.Reads as quadratic-new
use Rattle.quadratic.proofs.quadratic.Quadratic.value.Reads as quadratic_value
use Rattle.quadratic.proofs.quadratic.Quadratic.primitive.Reads as quadratic_primitive
use Rattle.quadratic.proofs.quadratic.Quadratic.f_next.Reads as quadratic-f-next
use Rattle.quadratic.proofs.quadratic_min.QuadraticMin.new.Reads as quadratic-min-new
use Rattle.quadratic.proofs.quadratic_min.QuadraticMin.careful.Reads as quadratic-min-careful
use Rattle.quadratic.proofs.quadratic_min.QuadraticMin.safe.Reads as quadratic-min-safe
use Rattle.quadratic.proofs.quadratic_min.QuadraticMin.value.Reads as quadratic-min-value
use Rattle.quadratic.proofs.quadratic_min.QuadraticMin.primitive.Reads as quadratic-min-primitive
use Rattle.quadratic.proofs.quadratic_min.QuadraticMin.f_next.Reads as quadratic-min-f-next

pub quadratic_new_unique : OneAnswer quadratic-new.Post
quadratic_new_unique κ a r₁ r₂ s t p q = p ∙ sym q

pub quadratic_value_unique : OneAnswer quadratic_value.Post
quadratic_value_unique κ a r₁ r₂ s t p q = p ∙ sym q

pub quadratic_primitive_unique : OneAnswer quadratic_primitive.Post
quadratic_primitive_unique κ a r₁ r₂ s t p q = p ∙ sym q

pub quadratic_f_next_unique : OneAnswer quadratic-f-next.Post
quadratic_f_next_unique κ a r₁ r₂ s t p q = p ∙ sym q

pub quadratic_min_new_unique : OneAnswer quadratic-min-new.Post
quadratic_min_new_unique κ a r₁ r₂ s t p q = p ∙ sym q

pub quadratic_min_careful_unique : OneAnswer quadratic-min-careful.Post
quadratic_min_careful_unique κ a r₁ r₂ s t p q = p ∙ sym q

pub quadratic_min_safe_unique : OneAnswer quadratic-min-safe.Post
quadratic_min_safe_unique κ a r₁ r₂ s t p q = p ∙ sym q

pub quadratic_min_value_unique : OneAnswer quadratic-min-value.Post
quadratic_min_value_unique κ a r₁ r₂ s t p q = p ∙ sym q

pub quadratic_min_primitive_unique : OneAnswer quadratic-min-primitive.Post
quadratic_min_primitive_unique κ a r₁ r₂ s t p q = p ∙ sym q

pub quadratic_min_f_next_unique : OneAnswer quadratic-min-f-next.Post
quadratic_min_f_next_unique κ a r₁ r₂ s t p q = p ∙ sym q

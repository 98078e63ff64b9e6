-- Any two outcomes that a contract allows are the same, of each contract as the checker reads it.
use mathlib.Core.Path.{◌∙◌, sym}
use Rattle.numbers.specs.OneOutcome.{OneAnswer, OneOutcome, pair}
use Rattle.query.proofs.answer.curve_with.Reads as curve-with
use Rattle.query.proofs.answer.AnswerInNumbersFromResultMarkedRefusal.from.Reads as query-answer-in-numbers
use Rattle.query.proofs.answer.verdict.Reads as query-answer-verdict
use Rattle.query.proofs.answer.number.Reads as query-answer-number
use Rattle.query.proofs.answer.finite.Reads as query-answer-finite
use Rattle.query.proofs.answer.ManyRefusalFromRefusal.from.Reads as many-refusal-from
use Rattle.query.proofs.answer.ManyInNumbers.of.Reads as many-answer-in-numbers
use Rattle.query.proofs.answer.curve_verdict.Reads as curve-verdict
use Rattle.query.proofs.answer.derivative.Reads as derivative
use Rattle.query.proofs.many.values.Reads as values
use Rattle.query.proofs.many.primitives.Reads as primitives
use Rattle.query.proofs.single.value.Reads as value
use Rattle.query.proofs.single.primitive.Reads as primitive
use Rattle.query.proofs.strip.strip.Reads as strip
use Rattle.query.proofs.strips.strips.Reads as strips
use Rattle.query.proofs.strips.run.Reads as run

pub curve_with_unique : OneAnswer curve-with.Post
curve_with_unique κ a r₁ r₂ s t p q = p ∙ sym q

pub answer_in_numbers_from_unique : OneAnswer query-answer-in-numbers.Post
answer_in_numbers_from_unique κ a r₁ r₂ s t p q = p ∙ sym q

pub verdict_unique : OneAnswer query-answer-verdict.Post
verdict_unique κ a r₁ r₂ s t p q = p ∙ sym q

pub number_unique : OneAnswer query-answer-number.Post
number_unique κ a r₁ r₂ s t p q = p ∙ sym q

pub finite_unique : OneAnswer query-answer-finite.Post
finite_unique κ a r₁ r₂ s t p q = p ∙ sym q

pub many_refusal_from_unique : OneAnswer many-refusal-from.Post
many_refusal_from_unique κ a r₁ r₂ s t p q = p ∙ sym q

pub many_in_numbers_of_unique : OneAnswer many-answer-in-numbers.Post
many_in_numbers_of_unique κ a r₁ r₂ s t p q = p ∙ sym q

pub derivative_unique : OneAnswer derivative.Post
derivative_unique κ a r₁ r₂ s t p q = p ∙ sym q

pub values_unique : OneOutcome values.Post (λ κ r s. let (_, (_, (_, (_, (_, (out, _)))))) = s in pair r out.now)
values_unique κ a r₁ r₂ s t p q = p ∙ sym q

pub primitives_unique : OneOutcome primitives.Post (λ κ r s. let (_, (_, (_, (_, (_, (out, _)))))) = s in pair r out.now)
primitives_unique κ a r₁ r₂ s t p q = p ∙ sym q

pub value_unique : OneAnswer value.Post
value_unique κ a r₁ r₂ s t p q = p ∙ sym q

pub primitive_unique : OneAnswer primitive.Post
primitive_unique κ a r₁ r₂ s t p q = p ∙ sym q

pub curve_verdict_unique : OneAnswer curve-verdict.Post
curve_verdict_unique κ a r₁ r₂ s t p q = p ∙ sym q

pub strip_unique : OneAnswer strip.Post
strip_unique κ a r₁ r₂ s t p q = p ∙ sym q

pub strips_unique : OneOutcome strips.Post (λ κ r s. let (_, (_, (_, (_, (_, (_, (out, _))))))) = s in pair r out.now)
strips_unique κ a r₁ r₂ s t p q = p ∙ sym q

pub run_unique : OneOutcome run.Post (λ κ r s. let (_, (_, (_, (_, (_, (out, _)))))) = s in pair r out.now)
run_unique κ a r₁ r₂ s t p q = p ∙ sym q

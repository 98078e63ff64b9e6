-- Any two outcomes that a contract allows are the same, of each contract as the checker reads it.
use mathlib.Core.Path.{◌∙◌, sym}
use Rattle.numbers.specs.OneOutcome.{OneAnswer, OneOutcome}
use Rattle.table.specs.Buffers.{outcome}
use Rattle.curve.proofs.build.build_verdict.Reads as build-verdict
use Rattle.curve.proofs.build.whole_frame.Reads as whole_frame
use Rattle.curve.proofs.build.build.Reads as build
use Rattle.curve.proofs.curve.Curve.with_extrapolation.Reads as curve-with-extrapolation
use Rattle.curve.proofs.curve.CurveInNumbersFromResultCurveRefusal.from.Reads as built-in-numbers

pub build_verdict_unique : OneAnswer build-verdict.Post
build_verdict_unique κ a r₁ r₂ s t p q = p ∙ sym q

pub whole_frame_unique : OneAnswer whole_frame.Post
whole_frame_unique κ a r₁ r₂ s t p q = p ∙ sym q

pub build_unique : OneOutcome build.Post (λ κ r s. let (_, (_, (_, (_, (_, (nodes, (tags, (slots, _)))))))) = s in outcome r nodes.now tags.now slots.now)
build_unique κ a r₁ r₂ s t p q = p ∙ sym q

pub curve_with_extrapolation_unique : OneAnswer curve-with-extrapolation.Post
curve_with_extrapolation_unique κ a r₁ r₂ s t p q = p ∙ sym q

pub curve_in_numbers_from_unique : OneAnswer built-in-numbers.Post
curve_in_numbers_from_unique κ a r₁ r₂ s t p q = p ∙ sym q

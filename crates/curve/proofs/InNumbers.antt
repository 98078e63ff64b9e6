-- The contract of `build` in the documents' numbers: it refuses by the first of 1 to 8, 10 and 11.
use Rattle.std.specs.Prelude.{Err, Option}
use mathlib.Core.Bool.{Bool}
use mathlib.Core.List.{List}
use mathlib.Core.Path.{◌≡◌, refl, ap, ◌∙◌}
use lib.Ieee.{Float}
use Rattle.numbers.specs.OneOutcome.{Follows}
use Rattle.refusal.specs.Refusal.{verdict_number}
use Rattle.table.specs.Buffers.{Buffers, Outcome, buffers}
use Rattle.table.specs.declared.ends.Seam.{Seam}
use Rattle.table.specs.declared.method.ConvexMonotone.{ConvexMonotone}
use Rattle.table.proofs.Outcomes.{number_judged}
use Rattle.curve.specs.Build.{curve_of, build_verdict, build_outcome}
use Rattle.curve.specs.Curve.{curve_in_numbers, Built}
use Rattle.curve.proofs.build.build.Reads as build

pub built_number : (x y : List Float) (method : ConvexMonotone) (hold : Bool) (seam : Option Seam) (b : Buffers) →
    (curve_in_numbers (build_outcome x y method hold seam b).answer).refusal ≡ verdict_number (build_verdict x y method seam b)
unfolding curve_of
built_number x y method hold seam b = number_judged (λ (k : Built). (curve_in_numbers k).refusal) Err (λ refusal. refl) b _ refl (build_verdict x y method seam b)

pub build_in_numbers : Follows build.Post (λ κ a r s. let (xs, (ys, (method, (_, (seam, (nodes, (tags, (slots, _)))))))) = a in (curve_in_numbers r).refusal ≡ verdict_number (build_verdict xs.now ys.now method seam (buffers nodes.now tags.now slots.now)))
build_in_numbers κ (xs, (ys, (method, (hold, (seam, (nodes, (tags, (slots, _)))))))) r s p =
    ap (λ (o : Outcome Built). (curve_in_numbers o.answer).refusal) p ∙ built_number xs.now ys.now method hold seam (buffers nodes.now tags.now slots.now)

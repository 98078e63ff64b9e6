-- The contract of `make` in the documents' numbers: it refuses by the first of 1, 4, 10 and 11.
use Rattle.std.specs.Prelude.{Err}
use mathlib.Core.Path.{◌≡◌, refl, ap, ◌∙◌}
use Rattle.numbers.specs.OneOutcome.{Follows}
use Rattle.refusal.specs.Refusal.{verdict_number}
use Rattle.table.specs.Buffers.{Outcome, buffers}
use Rattle.table.proofs.Outcomes.{number_judged}
use Rattle.assembly.specs.Making.{size_verdict, made_in_numbers, Made}
use Rattle.assembly.proofs.making.make.Reads as make

pub make_in_numbers : Follows make.Post (λ κ a r s. let (xs, (ys, (_, (nodes, (tags, (slots, _)))))) = a in (made_in_numbers r).0 ≡ verdict_number (size_verdict xs.now ys.now (buffers nodes.now tags.now slots.now)))
make_in_numbers κ (xs, (ys, (frame, (nodes, (tags, (slots, _)))))) r s p =
    let b = buffers nodes.now tags.now slots.now in
    ap (λ (o : Outcome Made). (made_in_numbers o.answer).0) p
    ∙ number_judged (λ (m : Made). (made_in_numbers m).0) Err (λ refusal. refl) b _ refl (size_verdict xs.now ys.now b)

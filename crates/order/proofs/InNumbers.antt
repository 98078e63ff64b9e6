-- The contract of `answer` in the documents' numbers: 11 for a buffer that is too short, and else no refusal.
use Rattle.std.specs.Prelude.{Ok, Err}
use Prim.Native.Nat.{ℕ}
use mathlib.Core.Bool.{Bool, true, false, cond}
use mathlib.Core.List.{List}
use mathlib.Core.Path.{◌≡◌, refl, ap, ◌∙◌}
use lib.Dec.{ltb}
use lib.ListN.{length}
use Rattle.numbers.specs.OneOutcome.{Follows, pair}
use Rattle.refusal.specs.Refusal.{number}
use Rattle.refusal.specs.declared.Refusal.TheVariants.{BufferTooShort}
use Rattle.order.specs.Answer.{text_of, order_in_numbers, OrderAnswer}
use Rattle.order.proofs.answer.answer.Reads as answer

by_room : (o out : List ℕ) (short : Bool) →
    (order_in_numbers (cond short (pair (Err BufferTooShort) out) (let text = text_of o out in pair (Ok text.0) text.1)).0).0 ≡ cond short (number BufferTooShort) 0
by_room o out true = refl
by_room o out false = refl

pub answer_in_numbers_lem : Follows answer.Post (λ κ a r s. let (_, (out, _)) = a in (order_in_numbers r).0 ≡ cond (ltb (length out.now) 2506) (number BufferTooShort) 0)
answer_in_numbers_lem κ (order, (out, _)) r s p = ap (λ (z : OrderAnswer × List ℕ). (order_in_numbers z.0).0) p ∙ by_room order.now out.now (ltb (length out.now) 2506)

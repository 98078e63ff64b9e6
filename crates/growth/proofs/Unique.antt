-- Any two outcomes that a contract allows are the same, of each contract as the checker reads it.
use mathlib.Core.Path.{◌∙◌, sym}
use Rattle.numbers.specs.OneOutcome.{OneAnswer, OneOutcome}
use Rattle.table.specs.Buffers.{outcome}
use Rattle.growth.proofs.growth.carry.Reads as carry
use Rattle.growth.proofs.growth.grow.Reads as grow

pub carry_unique : OneAnswer carry.Post
carry_unique κ a r₁ r₂ s t p q = p ∙ sym q

pub grow_unique : OneOutcome grow.Post (λ κ r s. let (_, (_, (_, (_, (_, (_, (_, (_, (nodes, (tags, (slots, _))))))))))) = s in outcome r nodes.now tags.now slots.now)
grow_unique κ a r₁ r₂ s t p q = p ∙ sym q

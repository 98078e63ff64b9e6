-- Any two outcomes that a contract allows are the same, of each contract as the checker reads it.
use mathlib.Core.Path.{◌∙◌, sym}
use Rattle.numbers.specs.OneOutcome.{OneAnswer, OneOutcome}
use Rattle.table.specs.Buffers.{outcome}
use Rattle.assembly.proofs.making.make.Reads as make
use Rattle.assembly.proofs.nodes.inner.Reads as inner

pub make_unique : OneOutcome make.Post (λ κ r s. let (_, (_, (_, (nodes, (tags, (slots, _)))))) = s in outcome r nodes.now tags.now slots.now)
make_unique κ a r₁ r₂ s t p q = p ∙ sym q

pub inner_unique : OneAnswer inner.Post
inner_unique κ a r₁ r₂ s t p q = p ∙ sym q

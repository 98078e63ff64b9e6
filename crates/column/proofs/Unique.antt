-- Any two outcomes that a contract allows are the same, of each contract as the checker reads it.
use mathlib.Core.Path.{◌∙◌, sym}
use Rattle.numbers.specs.OneOutcome.{OneAnswer, OneOutcome}
use Rattle.column.specs.Column.{columned}
use Rattle.column.proofs.between.strip_between.Reads as strip-between
use Rattle.column.proofs.entry.entry.Reads as entry
use Rattle.column.proofs.building.build_with_column.Reads as build-with-column
use Rattle.column.proofs.building.grow_with_column.Reads as grow-with-column

pub strip_between_unique : OneAnswer strip-between.Post
strip_between_unique κ a r₁ r₂ s t p q = p ∙ sym q

pub entry_unique : OneAnswer entry.Post
entry_unique κ a r₁ r₂ s t p q = p ∙ sym q

pub build_with_column_unique : OneOutcome build-with-column.Post (λ κ r s. let (_, (_, (_, (_, (_, (nodes, (tags, (slots, (column, _))))))))) = s in columned r nodes.now tags.now slots.now column.now)
build_with_column_unique κ a r₁ r₂ s t p q = p ∙ sym q

pub grow_with_column_unique : OneOutcome grow-with-column.Post (λ κ r s. let (_, (_, (_, (_, (_, (_, (_, (_, (nodes, (tags, (slots, (column, _)))))))))))) = s in columned r nodes.now tags.now slots.now column.now)
grow_with_column_unique κ a r₁ r₂ s t p q = p ∙ sym q

-- Any two outcomes that a contract allows are the same, of each contract as the checker reads it.
use mathlib.Core.Path.{◌∙◌, sym}
use Rattle.numbers.specs.OneOutcome.{OneAnswer, OneOutcome}
use Rattle.export_build.specs.Building.{across}
use Rattle.export_build.specs.ByMonths.{knots_left, across_months}
use Rattle.export_build.specs.Columns.{across_column}
use Rattle.export_build.specs.OneSheet as one-sheet
use Rattle.export_build.proofs.building.havgrunel_build.Reads as havgrunel-build
use Rattle.export_build.proofs.by_months.havgrunel_month_knots.Reads as havgrunel-month-knots
use Rattle.export_build.proofs.by_months.havgrunel_build_months.Reads as havgrunel-build-months
use Rattle.export_build.proofs.columns.havgrunel_build_with_column.Reads as havgrunel-build-with-column
use Rattle.export_build.proofs.columns.havgrunel_grow_with_column.Reads as havgrunel-grow-with-column
use Rattle.export_build.proofs.growing.havgrunel_grow.Reads as havgrunel-grow
use Rattle.export_build.proofs.in_sheets.havgrunel_build_in_sheets.Reads as havgrunel-build-in-sheets
use Rattle.export_build.proofs.one_sheet.havgrunel_inner_node.Reads as havgrunel-inner-node
use Rattle.export_build.proofs.one_sheet.havgrunel_sheet.Reads as havgrunel-sheet

pub havgrunel_build_unique : OneOutcome havgrunel-build.Post (λ κ r s. let (_, (_, (_, (_, (_, (_, (_, (_, (_, (_, (nodes, (tags, (slots, (sections, (tail, _))))))))))))))) = s in across r nodes.now tags.now slots.now sections.now tail.now)
havgrunel_build_unique κ a r₁ r₂ s t p q = p ∙ sym q

pub havgrunel_grow_unique : OneOutcome havgrunel-grow.Post (λ κ r s. let (_, (_, (_, (_, (_, (_, (_, (_, (_, (_, (_, (_, (_, (nodes, (tags, (slots, (sections, (tail, _)))))))))))))))))) = s in across r nodes.now tags.now slots.now sections.now tail.now)
havgrunel_grow_unique κ a r₁ r₂ s t p q = p ∙ sym q

pub havgrunel_build_in_sheets_unique : OneOutcome havgrunel-build-in-sheets.Post (λ κ r s. let (_, (_, (_, (_, (_, (_, (_, (nodes, (tags, (slots, (sections, (tail, _)))))))))))) = s in across r nodes.now tags.now slots.now sections.now tail.now)
havgrunel_build_in_sheets_unique κ a r₁ r₂ s t p q = p ∙ sym q

pub havgrunel_inner_node_unique : OneAnswer havgrunel-inner-node.Post
havgrunel_inner_node_unique κ a r₁ r₂ s t p q = p ∙ sym q

pub havgrunel_sheet_unique : OneOutcome havgrunel-sheet.Post (λ κ r s. let (_, (_, (_, (_, (_, (_, (_, (_, (_, (_, (_, (_, (nodes, (tags, (slots, (answer, _)))))))))))))))) = s in one-sheet.across r nodes.now tags.now slots.now answer.now)
havgrunel_sheet_unique κ a r₁ r₂ s t p q = p ∙ sym q

pub havgrunel_build_with_column_unique : OneOutcome havgrunel-build-with-column.Post (λ κ r s. let (_, (_, (_, (_, (_, (_, (_, (_, (_, (_, (nodes, (tags, (slots, (sections, (tail, (column, _)))))))))))))))) = s in across_column r nodes.now tags.now slots.now sections.now tail.now column.now)
havgrunel_build_with_column_unique κ a r₁ r₂ s t p q = p ∙ sym q

pub havgrunel_grow_with_column_unique : OneOutcome havgrunel-grow-with-column.Post (λ κ r s. let (_, (_, (_, (_, (_, (_, (_, (_, (_, (_, (_, (_, (_, (nodes, (tags, (slots, (sections, (tail, (column, _))))))))))))))))))) = s in across_column r nodes.now tags.now slots.now sections.now tail.now column.now)
havgrunel_grow_with_column_unique κ a r₁ r₂ s t p q = p ∙ sym q

pub havgrunel_month_knots_unique : OneOutcome havgrunel-month-knots.Post (λ κ r s. let (_, (_, (_, (knots, (count, _))))) = s in knots_left r knots.now count.now)
havgrunel_month_knots_unique κ a r₁ r₂ s t p q = p ∙ sym q

pub havgrunel_build_months_unique : OneOutcome havgrunel-build-months.Post (λ κ r s. let (_, (_, (_, (_, (_, (_, (_, (_, (_, (_, (_, (_, (knots, (nodes, (tags, (slots, (sections, (tail, _)))))))))))))))))) = s in across_months r knots.now nodes.now tags.now slots.now sections.now tail.now)
havgrunel_build_months_unique κ a r₁ r₂ s t p q = p ∙ sym q

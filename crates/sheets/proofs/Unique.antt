-- Any two outcomes that a contract allows are the same, of each contract as the checker reads it.
use mathlib.Core.Path.{◌∙◌, sym}
use Rattle.numbers.specs.OneOutcome.{OneAnswer, OneOutcome}
use Rattle.table.specs.Buffers.{outcome}
use Rattle.sheets.proofs.pieces.cuts_fit.Reads as cuts_fit
use Rattle.sheets.proofs.pieces.build_in_sheets.Reads as build-in-sheets
use Rattle.sheets.proofs.sheet.SheetInNumbersFromResultSheetEndRefusal.from.Reads as sheet-built-in-numbers
use Rattle.sheets.proofs.sheet.sheet_verdict.Reads as sheet-verdict
use Rattle.sheets.proofs.sheet.sheet.Reads as sheet

pub cuts_fit_unique : OneAnswer cuts_fit.Post
cuts_fit_unique κ a r₁ r₂ s t p q = p ∙ sym q

pub build_in_sheets_unique : OneOutcome build-in-sheets.Post (λ κ r s. let (_, (_, (_, (_, (nodes, (tags, (slots, _))))))) = s in outcome r nodes.now tags.now slots.now)
build_in_sheets_unique κ a r₁ r₂ s t p q = p ∙ sym q

pub sheet_in_numbers_from_unique : OneAnswer sheet-built-in-numbers.Post
sheet_in_numbers_from_unique κ a r₁ r₂ s t p q = p ∙ sym q

pub sheet_verdict_unique : OneAnswer sheet-verdict.Post
sheet_verdict_unique κ a r₁ r₂ s t p q = p ∙ sym q

pub sheet_unique : OneOutcome sheet.Post (λ κ r s. let (_, (_, (_, (_, (_, (_, (_, (nodes, (tags, (slots, _)))))))))) = s in outcome r nodes.now tags.now slots.now)
sheet_unique κ a r₁ r₂ s t p q = p ∙ sym q

-- The contracts in the documents' numbers: a sheet is refused by the first of 16, 1 to 7, 10 and 11; a table in sheets by 28, or else as its build is.
use Rattle.std.specs.Prelude.{Err, None}
use Prim.Native.Nat.{ℕ}
use mathlib.Core.Bool.{Bool, true, false, cond}
use mathlib.Core.List.{List}
use mathlib.Core.Path.{◌≡◌, refl, ap, ◌∙◌}
use lib.Ieee.{Float}
use lib.ListN.{length}
use Rattle.numbers.specs.OneOutcome.{Follows}
use Rattle.refusal.specs.Refusal.{number, verdict_number}
use Rattle.refusal.specs.declared.Refusal.TheVariants.{CutsNotInner}
use Rattle.table.specs.Buffers.{Buffers, Outcome, buffers}
use Rattle.table.specs.declared.method.ConvexMonotone.{ConvexMonotone}
use Rattle.table.proofs.Outcomes.{number_judged}
use Rattle.curve.specs.Build.{build_verdict, build_outcome}
use Rattle.curve.specs.Curve.{curve_in_numbers, Built}
use Rattle.curve.proofs.InNumbers.{built_number}
use Rattle.sheets.specs.Cuts.{cuts_fit}
use Rattle.sheets.specs.Sheet.{sheet_verdict, sheet_in_numbers, SheetBuilt}
use Rattle.sheets.proofs.pieces.build_in_sheets.Reads as build-in-sheets
use Rattle.sheets.proofs.sheet.sheet.Reads as sheet

pub sheet_in_numbers_lem : Follows sheet.Post (λ κ a r s. let (xs, (ys, (method, (left, (right, (_, (place, (nodes, (tags, (slots, _)))))))))) = a in (sheet_in_numbers r).refusal ≡ verdict_number (sheet_verdict xs.now ys.now method left right place (buffers nodes.now tags.now slots.now)))
sheet_in_numbers_lem κ (xs, (ys, (method, (left, (right, (start, (place, (nodes, (tags, (slots, _)))))))))) r s p =
    let b = buffers nodes.now tags.now slots.now in
    ap (λ (o : Outcome SheetBuilt). (sheet_in_numbers o.answer).refusal) p
    ∙ number_judged (λ (k : SheetBuilt). (sheet_in_numbers k).refusal) Err (λ refusal. refl) b _ refl (sheet_verdict xs.now ys.now method left right place b)

in_sheets : (x y : List Float) (method : ConvexMonotone) (cuts : List ℕ) (b : Buffers) (fits : Bool) →
    (curve_in_numbers (cond fits (build_outcome x y method false None b) (record { answer = Err CutsNotInner; buffers = b })).answer).refusal
    ≡ cond fits (verdict_number (build_verdict x y method None b)) (number CutsNotInner)
in_sheets x y method cuts b true = built_number x y method false None b
in_sheets x y method cuts b false = refl

pub build_in_sheets_in_numbers : Follows build-in-sheets.Post (λ κ a r s. let (xs, (ys, (method, (cuts, (nodes, (tags, (slots, _))))))) = a in (curve_in_numbers r).refusal ≡ cond (cuts_fit cuts.now (length xs.now)) (verdict_number (build_verdict xs.now ys.now method None (buffers nodes.now tags.now slots.now))) (number CutsNotInner))
build_in_sheets_in_numbers κ (xs, (ys, (method, (cuts, (nodes, (tags, (slots, _))))))) r s p =
    let b = buffers nodes.now tags.now slots.now in
    ap (λ (o : Outcome Built). (curve_in_numbers o.answer).refusal) p ∙ in_sheets xs.now ys.now method cuts.now b (cuts_fit cuts.now (length xs.now))

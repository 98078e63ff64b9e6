-- 16 first, then the table's own tests, then the signs'.
use mathlib.Core.Path.{refl, ◌∙◌}
use Rattle.refusal.proofs.First.{handed}
use Rattle.numbers.proofs.Ways.{returned}
use Rattle.sheets.proofs.Parts.{stopped}
use Rattle.sheets.proofs.sheet.numbers_verdict.Goals as goal

pub returns-in_err-table_verdict : goal.returns-in_err-table_verdict
returns-in_err-table_verdict c =
    let a = c.args in
    handed _ c.from_residual.ensures.1
    ∙ stopped a.xs.now a.ys.now a.method a.left a.right _ (returned c.none_given.ensures c.if-none_given.false) c.in_err-table_verdict.ensures
    _ refl

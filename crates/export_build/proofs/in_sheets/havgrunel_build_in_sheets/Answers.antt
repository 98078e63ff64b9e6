-- With no room for its answers it asks for the refusal alone, and with room it returns what the library built.
use mathlib.Core.Path.{sym, ap, ◌∙◌}
use borrow.Author.Tests.{le-ltb}
use Rattle.table.specs.Buffers.{buffers}
use Rattle.table.specs.declared.method.ConvexMonotone.{ConvexMonotone}
use Rattle.sheets.specs.InSheets.{in_sheets_outcome}
use Rattle.export_build.specs.Building.{short_refusal}
use Rattle.export_build.specs.Settings.{unknown, method_of}
use Rattle.export_build.proofs.Across.{curve_short, sheets_last}
use Rattle.export_build.proofs.in_sheets.havgrunel_build_in_sheets.Goals as goal

pub returns-then-no_answer : goal.returns-then-no_answer
returns-then-no_answer c =
    let a = c.args in
    let b = buffers a.nodes.now a.tags.now a.slots.now in
    curve_short (unknown a.split) (le-ltb _ _ c.if-split-gt2.false) b a.sections.now a.tail.now (in_sheets_outcome a.knots.now a.averages.now (method_of a.quadraticity a.monotonicity a.positive a.split) a.cuts.now b) _ (sym c.no_answer.ensures ∙ c.if-no_answer.true)
    (sheets_last a.knots.now a.averages.now c.method_of-method.result a.cuts.now b _ c.cut_refusal.ensures
    ∙ ap (λ (m : ConvexMonotone). short_refusal (in_sheets_outcome a.knots.now a.averages.now m a.cuts.now b).answer) c.method_of-method.ensures)

-- A curve that is refused refuses the strip, and else its two ends are asked.
use mathlib.Core.Path.{refl, sym, ◌∙◌}
use Rattle.refusal.proofs.First.{handed}
use Rattle.query.specs.Strip.{total_to}
use Rattle.query.proofs.ByParts.{by_totals, curve_refused}
use Rattle.query.proofs.strip.strip.Goals as goal

pub returns : goal.returns
returns c =
    let a = c.args in
    by_totals a.xs.now a.curve a.tags.now a.slots.now a.a a.b _ _ _ c.in_ok-from.ensures c.in_ok-to.ensures c.between.ensures

pub returns-in_err-to : goal.returns-in_err-to
returns-in_err-to c =
    let a = c.args in
    handed _ c.from_residual-in_err-to.ensures.1 ∙ by_totals a.xs.now a.curve a.tags.now a.slots.now a.a a.b _ _ _ c.in_ok-from.ensures c.in_err-to.ensures refl

pub returns-in_err-from : goal.returns-in_err-from
returns-in_err-from c =
    let a = c.args in
    handed _ c.from_residual-in_err-from.ensures.1
    ∙ by_totals a.xs.now a.curve a.tags.now a.slots.now a.a a.b _ (total_to a.xs.now a.curve a.tags.now a.slots.now a.b) _ c.in_err-from.ensures refl refl

pub returns-in_err-curve_verdict : goal.returns-in_err-curve_verdict
returns-in_err-curve_verdict c =
    let a = c.args in
    handed _ c.from_residual.ensures.1 ∙ curve_refused a.xs.now a.curve a.tags.now a.slots.now a.a a.b _ (sym c.in_err-curve_verdict.ensures)

-- The build's line, and a line to each query where there is a curve.
use Prim.Native.Nat.{◌+◌, ◌*◌}
use mathlib.Core.List.{[]}
use mathlib.Core.Path.{refl, ap, ◌∙◌}
use Rattle.order.specs.Form.{points, queries}
use Rattle.table.specs.Buffers.{outcome}
use Rattle.curve.specs.Curve.{with_extrapolation}
use Rattle.order.proofs.Texts.{curve_text}
use Rattle.order.proofs.answer.put_answer.Goals as goal

pub returns-in-Ok : goal.returns-in-Ok
returns-in-Ok c =
    let a = c.args in
    let o = a.form.bytes.now in
    rw c.queries.ensures.0 (curve_text o a.xs.now (outcome a.built [] a.tags.now a.slots.now) _ _ (20 + 16 * points o) (queries o) _ a.out.now _ _ c.in-Ok.is
    (c.with_extrapolation-asked.ensures
    ∙ ap (with_extrapolation c.in-Ok.curve) c.allow.ensures)
    refl refl refl c.put_build-in-Ok.ensures c.put_queries.ensures)

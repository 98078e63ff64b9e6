-- With no room for the answer only a refusal is sought, and else the library's answer is returned.
use mathlib.Core.Path.{◌∙◌, ap}
use borrow.Author.Tests.{le-ltb}
use Rattle.section.specs.Section.{primitive}
use Rattle.section.specs.declared.section.Section.{Section}
use Rattle.query.specs.Query.{ask, covered_at, curve_with}
use Rattle.curve.specs.declared.curve.Curve.{Curve}
use Rattle.export_query.proofs.Told.{has_room}
use Rattle.export_query.proofs.asking.havgrunel_primitive.Goals as goal

pub returns : goal.returns
returns c =
    let a = c.args in
    has_room (λ (s : Section). primitive s a.x) a.knots.now (curve_with a.tail_value a.tail_total a.tail_from a.extrapolate) a.tags.now a.slots.now a.x a.answer.now
    (le-ltb _ _ c.if-answer-lt1.false) _ _
    (c.primitive.ensures ∙ ap (λ (k : Curve). ask (λ (s : Section). primitive s a.x) (covered_at a.knots.now k a.tags.now a.slots.now a.x)) c.curve_with-curve.ensures)
    c.write_answer.ensures

-- The table is read, and then answered.
use native.Mathlib.Omega.{arith}
use Rattle.order.specs.Answer.{room}
use Rattle.order.proofs.Texts.{read_knots, read_averages, form_text}
use Rattle.order.proofs.answer.answer_form.Goals as goal

pub returns : goal.returns
returns c =
    let a = c.args in
    let o = a.form.bytes.now in
    let (e, few) = c.points-points.ensures in
    let ex = read_knots o _ _ _ e (omega (arith, few, e)) c.read_floats.ensures in
    let ey = read_averages o _ _ _ e (omega (arith, few, e)) c.read_floats-2.ensures in
    form_text o _ _ room a.out.now _ ex ey c.answer_table.ensures

use Rattle.record.proofs.Numbers.{primitive_weighs, parts_answer}
use Rattle.record.proofs.number.primitive_in.Goals as goal

pub returns : goal.returns
returns c = parts_answer _ _ c.in_ok-fields.ensures.cases (primitive_weighs _)
    c.in_ok-quadratic_named.ensures c.quadratic_primitive-quadratic.ensures
    c.in_ok-other_named.ensures c.other_primitive-other.ensures
    c.together.ensures

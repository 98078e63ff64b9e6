use Rattle.record.proofs.Numbers.{value_weighs, parts_answer}
use Rattle.record.proofs.number.value_in.Goals as goal

pub returns : goal.returns
returns c = parts_answer _ _ c.in_ok-fields.ensures.cases (value_weighs _)
    c.in_ok-quadratic_named.ensures c.quadratic_value-quadratic.ensures
    c.in_ok-other_named.ensures c.other_value-other.ensures
    c.together.ensures

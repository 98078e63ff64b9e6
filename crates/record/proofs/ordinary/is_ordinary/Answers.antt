-- By its first fields, and the kinds that its tag names.
use Rattle.record.proofs.Fields.{ordinary_by_fields}
use Rattle.record.proofs.ordinary.is_ordinary.Goals as goal

pub returns : goal.returns
returns c =
    rw (c.are_of_size.ensures, c.has_quadratic_divisors-quadratic.ensures, c.has_other_divisors-other.ensures)
    (ordinary_by_fields c.in-Some.ensures.cases _ c.in-Some-quadratic_named.ensures c.in-Some-other_named.ensures)

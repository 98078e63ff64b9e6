-- By the first fields, and the kinds that the tag names.
use mathlib.Core.Path.{◌∙◌}
use Rattle.record.proofs.Fields.{first_length, read_by_fields, read_by_kinds}
use Rattle.record.proofs.reading.read_section.Goals as goal

pub returns : goal.returns
returns c =
    let first = c.in_ok-fields.ensures.cases in
    c.joined.ensures
    ∙ rw (c.quadratic_from-quadratic.ensures, c.other_from-other.ensures)
    (read_by_kinds _ _ (first_length first) c.in_ok-quadratic_named.ensures c.in_ok-other_named.ensures ∙ read_by_fields first _)

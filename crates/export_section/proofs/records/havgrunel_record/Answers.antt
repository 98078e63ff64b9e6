-- With no room for the copy only a refusal is sought, and else the record's slots are copied or it is refused.
use Rattle.std.specs.Prelude.{Ok}
use mathlib.Core.Path.{◌≡◌, refl, sym, ◌∙◌}
use borrow.Author.Rules.{rules}
use lib.ListN.{length}
use Rattle.record.specs.Reader.{record_verdict}
use Rattle.export_section.proofs.Copies.{part_long}
use Rattle.export_section.proofs.records.havgrunel_record.Goals as goal

pub copy-requires : goal.copy-requires
copy-requires c =
    let accepted : let a = c.args in record_verdict a.points (length a.slots.now) a.number ≡ Ok tt = sym c.record_verdict.ensures ∙ c.in-Ok.is in
    let a = c.args in
    (part_long a.points a.slots.now a.number a.into.now _ _ accepted refl c.record_slots.ensures, search rules)

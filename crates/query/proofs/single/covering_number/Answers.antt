-- The search ends within the records.
use Rattle.std.specs.Prelude.{Some}
use native.Mathlib.Omega.{arith}
use mathlib.Core.Path.{sym, ap, ◌∙◌}
use lib.ListN.{length}
use Rattle.numbers.specs.Marks.{mark}
use Rattle.section.specs.declared.section.Section.{Section}
use Rattle.record.specs.Number.{answer_in}
use Rattle.record.specs.Reading.{record_at}
use Rattle.query.proofs.Answers.{Reaches, reached}
use Rattle.query.proofs.Walk.{place_le}
use Rattle.query.specs.Steps.{figure}
use Rattle.query.proofs.Covering.{from_the_last, before_the_last}
use Rattle.query.proofs.single.covering_number.Goals as goal

pub returns-then-xs-end : goal.returns-then-xs-end
returns-then-xs-end c =
    let a = c.args in
    ap Some (c.mark.ensures ∙ ap mark c.tail_number.ensures)
    ∙ sym (ap (answer_in (λ (s : Section). figure a.wanted s a.q)) (from_the_last a.xs.now a.curve a.tags.now a.slots.now a.q c.if-xs-end.true))

-- the place that was found has a record
pub record_number-requires : goal.record_number-requires
record_number-requires c =
    let fits : let a = c.args in Reaches a.xs.now (length a.tags.now) (length a.slots.now) = let a = c.args in reached a.xs.now (length a.tags.now) (length a.slots.now) c.requires in
    let f = fits in
    let p = place_le c.args.xs.now c.args.q in
    let e = c.place_of.ensures in
    (omega (arith, f.low, f.room.in_tags, p, e), omega (arith, f.low, f.room.in_slots, p, e), omega (arith, f.low, f.room.high, p, e))

pub returns : goal.returns
returns c =
    let a = c.args in
    c.record_number.ensures
    ∙ ap (answer_in (λ (s : Section). figure a.wanted s a.q))
    (ap (record_at a.tags.now a.slots.now) c.place_of.ensures ∙ sym (before_the_last a.xs.now a.curve a.tags.now a.slots.now a.q c.if-xs-end.false))

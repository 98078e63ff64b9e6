-- From the last knot on the tail answers, and before it the record at the place that was found.
use native.Mathlib.Omega.{arith}
use mathlib.Core.Path.{sym, ap, ◌∙◌}
use lib.ListN.{length}
use Rattle.section.specs.Section.{primitive}
use Rattle.section.specs.declared.section.Section.{Section}
use Rattle.record.specs.Number.{answer_in, or_zero}
use Rattle.record.specs.Reading.{record_at}
use Rattle.query.proofs.Answers.{Reaches, reached}
use Rattle.query.proofs.Walk.{place_le}
use Rattle.query.proofs.Covering.{from_the_last, before_the_last}
use Rattle.query.proofs.strips.total_near.Goals as goal

pub returns-then-end-q : goal.returns-then-end-q
returns-then-end-q c =
    let a = c.args in record {
      number = c.tail_number.ensures
          ∙ sym (ap or_zero (ap (answer_in (λ (k : Section). primitive k a.q)) (from_the_last a.xs.now a.curve a.tags.now a.slots.now a.q c.if-end-q.true)));
      place = c.requires.1;
    }

-- the place that was found has a record
pub record_number-requires : goal.record_number-requires
record_number-requires c =
    let f : Reaches c.args.xs.now (length c.args.tags.now) (length c.args.slots.now) = reached c.args.xs.now (length c.args.tags.now) (length c.args.slots.now) c.requires.0 in
    let p = place_le c.args.xs.now c.args.q in
    let e = c.place_from-place.ensures in
    (omega (arith, f.low, f.room.in_tags, p, e), omega (arith, f.low, f.room.in_slots, p, e), omega (arith, f.low, f.room.high, p, e))

pub returns : goal.returns
returns c =
    let a = c.args in
    let f : Reaches a.xs.now (length a.tags.now) (length a.slots.now) = reached a.xs.now (length a.tags.now) (length a.slots.now) c.requires.0 in
    let e = c.place_from-place.ensures in record {
      number = c.or_zero-number.ensures
          ∙ ap or_zero
          (c.record_number.ensures
          ∙ ap (answer_in (λ (k : Section). primitive k a.q))
          (ap (record_at a.tags.now a.slots.now) e ∙ sym (before_the_last a.xs.now a.curve a.tags.now a.slots.now a.q c.if-end-q.false)));
      place = omega (arith, f.low, place_le a.xs.now a.q, e);
    }

-- From the last knot on the tail answers, and before it the record at the place that was found.
use Rattle.std.specs.Prelude.{Some}
use native.Mathlib.Omega.{arith}
use mathlib.Core.Path.{sym, ap, ◌∙◌}
use lib.ListN.{length}
use Rattle.numbers.specs.Marks.{mark}
use Rattle.section.specs.declared.section.Section.{Section}
use Rattle.record.specs.Number.{answer_in}
use Rattle.record.specs.Reading.{record_at}
use Rattle.query.specs.Steps.{figure}
use Rattle.query.proofs.Answers.{Reaches, reached}
use Rattle.query.proofs.Walk.{place_le}
use Rattle.query.proofs.Covering.{from_the_last, before_the_last}
use Rattle.query.proofs.many.number_near.Goals as goal

pub returns-then-end-q : goal.returns-then-end-q
returns-then-end-q c =
    let a = c.args in record {
      answer = ap Some (c.mark.ensures ∙ ap mark c.tail_number.ensures)
          ∙ sym (ap (answer_in (λ (k : Section). figure a.wanted k a.q)) (from_the_last a.xs.now a.curve a.tags.now a.slots.now a.q c.if-end-q.true));
      place = c.requires.1;
    }

-- the place that was found has a record
pub record_number-answer-requires : goal.record_number-answer-requires
record_number-answer-requires c =
    let fits : let a = c.args in Reaches a.xs.now (length a.tags.now) (length a.slots.now) = let a = c.args in reached a.xs.now (length a.tags.now) (length a.slots.now) c.requires.0 in
    let f = fits in
    let p = place_le c.args.xs.now c.args.q in
    let e = c.place_from-place.ensures in
    (omega (arith, f.low, f.room.in_tags, p, e), omega (arith, f.low, f.room.in_slots, p, e), omega (arith, f.low, f.room.high, p, e))

pub returns : goal.returns
returns c =
    let fits : let a = c.args in Reaches a.xs.now (length a.tags.now) (length a.slots.now) = let a = c.args in reached a.xs.now (length a.tags.now) (length a.slots.now) c.requires.0 in
    let a = c.args in
    let e = c.place_from-place.ensures in record {
      answer = c.record_number-answer.ensures
          ∙ ap (answer_in (λ (k : Section). figure a.wanted k a.q))
          (ap (record_at a.tags.now a.slots.now) e ∙ sym (before_the_last a.xs.now a.curve a.tags.now a.slots.now a.q c.if-end-q.false));
      place = omega (arith, fits.low, place_le a.xs.now a.q, e);
    }

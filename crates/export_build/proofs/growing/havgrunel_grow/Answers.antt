-- With no room for its answers it asks for the refusal alone, and with room it returns what the library grew.
use Rattle.curve.specs.Curve.{Built}
use mathlib.Core.Path.{sym, ap, ◌∙◌}
use borrow.Author.Tests.{le-ltb}
use lib.ListN.{length}
use Rattle.table.specs.Buffers.{Outcome, buffers}
use Rattle.growth.specs.Growth.{carried_at, grow_outcome, holds}
use Rattle.export_build.specs.Building.{short_refusal}
use Rattle.export_build.specs.Growing.{previous_of}
use Rattle.export_build.specs.Settings.{unknown, method_of}
use Rattle.export_build.proofs.Across.{curve_short, grow_last, same_grow}
use Rattle.export_build.proofs.growing.havgrunel_grow.Goals as goal

pub returns-then-no_answer : goal.returns-then-no_answer
returns-then-no_answer c =
    let a = c.args in
    let b = buffers a.nodes.now a.tags.now a.slots.now in
    curve_short (unknown a.split) (le-ltb _ _ c.if-split-gt2.false) b a.sections.now a.tail.now
    (grow_outcome a.knots.now a.averages.now (method_of a.quadraticity a.monotonicity a.positive a.split) a.localisation a.final_size
    (previous_of a.grown a.previous_sections a.previous_held) a.previous_tags.now a.previous_slots.now b) _ (sym c.no_answer.ensures ∙ c.if-no_answer.true)
    (grow_last a.knots.now a.averages.now c.method_of-method.result (holds (length a.knots.now) a.final_size)
    (carried_at (length a.knots.now) a.localisation c.previous_of-previous.result a.previous_tags.now a.previous_slots.now) b _ c.refusal_of.ensures
    ∙ ap (λ (o : Outcome Built). short_refusal o.answer)
    (same_grow a.knots.now a.averages.now _ _ a.localisation a.final_size _ _ a.previous_tags.now a.previous_slots.now b c.method_of-method.ensures c.previous_of-previous.ensures))

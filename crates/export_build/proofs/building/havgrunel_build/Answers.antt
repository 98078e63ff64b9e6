-- With no room for its answers it asks the library for its refusal alone, and with room it returns what the library built.
use Rattle.curve.specs.Curve.{Built}
use mathlib.Core.Path.{sym, ap, ◌∙◌}
use borrow.Author.Tests.{le-ltb}
use Rattle.table.specs.Buffers.{Outcome, buffers}
use Rattle.curve.specs.Build.{build_outcome}
use Rattle.export_build.specs.Building.{seam_of, short_refusal}
use Rattle.export_build.specs.Settings.{unknown, method_of}
use Rattle.export_build.proofs.Across.{curve_short, build_last, same_build}
use Rattle.export_build.proofs.building.havgrunel_build.Goals as goal

pub returns-then-no_answer : goal.returns-then-no_answer
returns-then-no_answer c =
    let a = c.args in
    let b = buffers a.nodes.now a.tags.now a.slots.now in
    curve_short (unknown a.split) (le-ltb _ _ c.if-split-gt2.false) b a.sections.now a.tail.now
    (build_outcome a.knots.now a.averages.now (method_of a.quadraticity a.monotonicity a.positive a.split) a.hold (seam_of a.seamed a.seam_count a.seam_node) b) _
    (sym c.no_answer.ensures ∙ c.if-no_answer.true)
    (build_last a.knots.now a.averages.now c.method_of-method.result a.hold c.seam_of-seam.result b _ _ c.build_verdict.ensures c.last_refusal.ensures
    ∙ ap (λ (o : Outcome Built). short_refusal o.answer) (same_build a.knots.now a.averages.now _ _ a.hold _ _ b c.method_of-method.ensures c.seam_of-seam.ensures))

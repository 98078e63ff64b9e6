-- By the tests that led to each return.
use mathlib.Core.Bool.{false}
use mathlib.Core.Path.{◌≡◌, sym, ◌∙◌}
use borrow.Author.Tests.{lt-ltb, le-ltb}
use lib.ListN.{length}
use Rattle.refusal.specs.declared.Refusal.TheVariants.{SplitUnknown}
use Rattle.table.specs.Buffers.{buffers}
use Rattle.export_build.specs.Building.{seam_of, no_answer}
use Rattle.export_build.specs.ByMonths.{size_of}
use Rattle.export_build.specs.Settings.{unknown, method_of}
use Rattle.export_build.proofs.Monthly.{months_no_split, months_short, months_roomy, months_last, same_after, same_verdict, same_months}
use Rattle.export_build.proofs.by_months.havgrunel_build_months.Goals as goal

pub returns : goal.returns
returns c =
    let roomy_here : let a = c.args in no_answer (length a.sections.now) (length a.tail.now) ≡ false = sym c.no_answer.ensures ∙ c.if-no_answer.false in
    let a = c.args in
    let b = buffers a.nodes.now a.tags.now a.slots.now in
    months_roomy a.first a.last a.months a.averages.now (method_of a.quadraticity a.monotonicity a.positive a.split) a.hold (seam_of a.seamed a.seam_count a.seam_node) a.knots.now b a.sections.now a.tail.now (unknown a.split) (sym c.no_size.ensures ∙ c.if-no_size.false) (le-ltb _ _ c.if-split-gt2.false) _ _ _ _ roomy_here
    (c.build_months-built.ensures
    ∙ same_months a.first a.last c.ranges.first c.ranges.last _ _ a.averages.now _ _ a.hold _ _ a.knots.now b c.size_of-size.ensures c.method_of-method.ensures c.seam_of-seam.ensures)
    (let w = c.write_answer.ensures in (w.refusal, (w.sections, w.tail)))

pub returns-then-no_answer : goal.returns-then-no_answer
returns-then-no_answer c =
    let a = c.args in
    let b = buffers a.nodes.now a.tags.now a.slots.now in
    months_short a.first a.last a.months a.averages.now (method_of a.quadraticity a.monotonicity a.positive a.split) a.hold (seam_of a.seamed a.seam_count a.seam_node) a.knots.now b a.sections.now a.tail.now (unknown a.split) (sym c.no_size.ensures ∙ c.if-no_size.false) (le-ltb _ _ c.if-split-gt2.false) _ (sym c.no_answer.ensures ∙ c.if-no_answer.true)
    (months_last a.first a.last (size_of a.months) a.averages.now (method_of a.quadraticity a.monotonicity a.positive a.split) a.hold (seam_of a.seamed a.seam_count a.seam_node) a.knots.now b _ _
    (c.build_months_verdict.ensures
    ∙ same_verdict a.first a.last c.ranges.first c.ranges.last _ _ a.averages.now _ _ _ _ _ _ _ _ c.size_of-size.ensures c.method_of-method.ensures c.seam_of-seam.ensures)
    c.last_refusal.ensures)

pub returns-then-split-gt2 : goal.returns-then-split-gt2
returns-then-split-gt2 c =
    let a = c.args in
    let b = buffers a.nodes.now a.tags.now a.slots.now in
    months_no_split a.first a.last a.months a.averages.now (method_of a.quadraticity a.monotonicity a.positive a.split) a.hold (seam_of a.seamed a.seam_count a.seam_node) a.knots.now b a.sections.now a.tail.now (unknown a.split) (sym c.no_size.ensures ∙ c.if-no_size.false) _ (lt-ltb _ _ c.if-split-gt2.true)
    (c.after_months.ensures ∙ same_after a.first a.last c.ranges.first c.ranges.last _ _ SplitUnknown c.size_of-size.ensures)

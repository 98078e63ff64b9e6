-- A refusal changes nothing, and periods that nothing refuses are built.
use mathlib.Core.Path.{sym, ◌∙◌}
use lib.ListN.{length}
use Rattle.table.specs.Buffers.{buffers}
use Rattle.refusal.proofs.First.{handed}
use Rattle.months.proofs.Asked.{ready, no_periods, of_periods, none_built, all_built}
use Rattle.months.proofs.Whole.{known, within}
use Rattle.months.proofs.building.build_months.Goals as goal

pub make_periods-requires : goal.make_periods-requires
make_periods-requires c =
    let a = c.args in
    ready _ a.averages.now a.method a.seam (length a.knots.now) (length a.nodes.now) (length a.tags.now) (length a.slots.now)
    (within a.first a.last a.size _ (known a.first a.last a.size _ _ c.ranges.first c.ranges.last c.periods_of.ensures c.in_ok-periods.was))
    (sym c.periods_verdict.ensures ∙ c.in_ok-periods_verdict.was)

pub returns-in_err-periods : goal.returns-in_err-periods
returns-in_err-periods c =
    let a = c.args in
    rw (handed _ c.from_residual.ensures.1)
    (none_built a.first a.last a.size a.averages.now a.method a.hold a.seam a.knots.now (buffers a.nodes.now a.tags.now a.slots.now) _
    (sym (no_periods a.first a.last a.size a.averages.now a.method a.seam (length a.knots.now) (length a.nodes.now) (length a.tags.now) (length a.slots.now) _ (known a.first a.last a.size _ _ c.ranges.first c.ranges.last c.periods_of.ensures c.in_err-periods.was))))

pub returns-in_err-periods_verdict : goal.returns-in_err-periods_verdict
returns-in_err-periods_verdict c =
    let a = c.args in
    rw (handed _ c.from_residual-in_err-periods_verdict.ensures.1)
    (none_built a.first a.last a.size a.averages.now a.method a.hold a.seam a.knots.now (buffers a.nodes.now a.tags.now a.slots.now) _
    (sym (of_periods a.first a.last a.size a.averages.now a.method a.seam (length a.knots.now) (length a.nodes.now) (length a.tags.now) (length a.slots.now) _ (known a.first a.last a.size _ _ c.ranges.first c.ranges.last c.periods_of.ensures c.in_ok-periods.was) _ c.periods_verdict.ensures) ∙ c.in_err-periods_verdict.was))

pub returns : goal.returns
returns c =
    let a = c.args in
    let whole = (known a.first a.last a.size _ _ c.ranges.first c.ranges.last c.periods_of.ensures c.in_ok-periods.was) in
    all_built a.first a.last a.size a.averages.now a.method a.hold a.seam a.knots.now (buffers a.nodes.now a.tags.now a.slots.now) _ whole
    (sym (of_periods a.first a.last a.size a.averages.now a.method a.seam (length a.knots.now) (length a.nodes.now) (length a.tags.now) (length a.slots.now) _ whole _ c.periods_verdict.ensures) ∙ c.in_ok-periods_verdict.was)
    _ c.make_periods.ensures

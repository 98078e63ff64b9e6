-- By the tests that led to each return.
use mathlib.Core.Path.{sym, ◌∙◌}
use Rattle.refusal.specs.declared.Refusal.TheVariants.{BufferTooShort}
use Rattle.export_build.proofs.Monthly.{knots_no_count, same_after}
use Rattle.export_build.proofs.by_months.havgrunel_month_knots.Goals as goal

pub returns-then-count-lt1 : goal.returns-then-count-lt1
returns-then-count-lt1 c =
    let a = c.args in
    knots_no_count a.first a.last a.months a.knots.now a.count.now _ (sym c.no_size.ensures ∙ c.if-no_size.false) c.if-count-lt1.true
    (c.after_months.ensures ∙ same_after a.first a.last c.ranges.first c.ranges.last _ _ BufferTooShort c.size_of-size.ensures)

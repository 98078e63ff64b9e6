-- What is carried is built with, or refused with nothing written.
use mathlib.Core.Path.{sym, ◌∙◌}
use borrow.Author.Tests.{lt-ltb}
use lib.ListN.{length}
use Rattle.table.specs.Buffers.{buffers}
use Rattle.growth.specs.Growth.{holds}
use Rattle.column.proofs.Left.{short_column, just_built, carried_on}
use Rattle.column.proofs.building.grow_with_column.Goals as goal

pub with_entries-requires : goal.with_entries-requires
with_entries-requires c =
    let a = c.args in
    record { xs_in_bounds = c.if-column-size.false; just_built = λ k f. just_built a.xs.now a.ys.now a.method _ _ (buffers a.nodes.now a.tags.now a.slots.now) _ _ _ _ k c.build-next.ensures f }

pub returns-then-column-size : goal.returns-then-column-size
returns-then-column-size c =
    let a = c.args in
    let lent = buffers a.nodes.now a.tags.now a.slots.now in
    carried_on a.xs.now lent a.column.now _ _ _ _ (sym c.carry.ensures ∙ c.in_ok-seam.was)
    (short_column a.xs.now a.ys.now a.method (holds (length a.xs.now) a.final_size) c.in_ok-seam.seam lent a.column.now _ c.short_verdict.ensures (lt-ltb _ _ c.if-column-size.true))

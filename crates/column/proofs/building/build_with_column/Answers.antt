-- A short column is told last, and else what the build leaves has its entries.
use borrow.Author.Tests.{lt-ltb}
use Rattle.table.specs.Buffers.{buffers}
use Rattle.column.proofs.Left.{short_column, just_built}
use Rattle.column.proofs.building.build_with_column.Goals as goal

pub with_entries-requires : goal.with_entries-requires
with_entries-requires c =
    let a = c.args in
    record { xs_in_bounds = c.if-column-xs.false; just_built = λ k f. just_built a.xs.now a.ys.now a.method _ a.seam (buffers a.nodes.now a.tags.now a.slots.now) _ _ _ _ k c.build-built.ensures f }

pub returns-then-column-xs : goal.returns-then-column-xs
returns-then-column-xs c =
    let a = c.args in
    short_column a.xs.now a.ys.now a.method a.hold a.seam (buffers a.nodes.now a.tags.now a.slots.now) a.column.now _ c.short_verdict.ensures (lt-ltb _ _ c.if-column-xs.true)

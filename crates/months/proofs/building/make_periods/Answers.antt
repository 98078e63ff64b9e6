-- The knots are filled in, and their curve is made.
use lib.ListN.{take}
use Rattle.table.specs.Buffers.{buffers}
use Rattle.assembly.specs.Making.{size_verdict}
use Rattle.assembly.proofs.Sizes.{was_made}
use Rattle.months.proofs.Shaped.{filled_part, is_built}
use Rattle.months.proofs.building.make_periods.Goals as goal

pub returns : goal.returns
returns c =
    let a = c.args in
    let b = buffers a.nodes.now a.tags.now a.slots.now in
    let filled = c.fill.ensures in
    let part = filled_part a.periods a.averages.now a.method a.hold a.seam a.knots.now b _ c.requires.2 filled in
    let x = take a.periods.knots c.fill.new.knots in
    let (_, tail, left) = was_made 0 x a.averages.now _ (size_verdict x a.averages.now b) b _ c.make.ensures _ c.in_ok-tail.was in
    is_built a.periods a.averages.now a.method a.hold a.seam a.knots.now b _ _ _ _ _ part c.whole_frame-frame.ensures filled tail left

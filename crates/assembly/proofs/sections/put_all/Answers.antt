-- The nodes, then every section, then the tail.
use native.Mathlib.Omega.{arith}
use Prim.Native.Nat.{◌-◌, ◌<◌}
use lib.ListN.{length}
use Rattle.assembly.proofs.Places.{nodes_hold}
use Rattle.assembly.proofs.Knots.{right_left, total_left}
use Rattle.assembly.proofs.sections.put_all.Goals as goal

pub put_sections-total-requires-clause-by_index : goal.put_sections-total-requires-clause-by_index
put_sections-total-requires-clause-by_index c = let a = c.args in nodes_hold a.xs.now a.ys.now a.frame _ _ c.fill.ensures c.requires.2.in_nodes

pub tail_of-requires-clause-right_price_value : goal.tail_of-requires-clause-right_price_value
tail_of-requires-clause-right_price_value c =
    let a = c.args in
    let last : length a.xs.now - 2 < length a.xs.now - 1 = omega arith in
    rw c.put_sections-total.ensures.slots (right_left a.xs.now a.ys.now a.frame (length a.xs.now - 2) a.slots.now last c.requires.2.in_slots)

pub tail_of-requires-clause-total_after_value : goal.tail_of-requires-clause-total_after_value
tail_of-requires-clause-total_after_value c =
    let a = c.args in
    let last : length a.xs.now - 2 < length a.xs.now - 1 = omega arith in
    rw c.put_sections-total.ensures.slots (total_left a.xs.now a.ys.now a.frame (length a.xs.now - 2) a.slots.now last c.requires.2.in_slots)

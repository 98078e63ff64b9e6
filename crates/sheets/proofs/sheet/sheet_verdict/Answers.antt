-- 16 and 1 to 7, then the room's tests of what the buffers have from the place on.
use Prim.Native.Nat.{◌-◌, ◌*◌}
use lib.ListN.{length}
use Rattle.numbers.specs.Sizes.{slot_count}
use Rattle.refusal.proofs.First.{stops_here, goes_on}
use Rattle.table.specs.Check.{room_tests}
use Rattle.sheets.specs.Sheet.{numbers_tests}
use Rattle.sheets.proofs.sheet.sheet_verdict.Goals as goal

pub returns-in_err-numbers_verdict : goal.returns-in_err-numbers_verdict
returns-in_err-numbers_verdict c =
    let a = c.args in
    let t = numbers_tests a.xs.now a.ys.now a.method a.left a.right in
    stops_here _ t (room_tests (length a.xs.now) (a.nodes - a.place) (a.tags - a.place) (a.slots - slot_count * a.place)) c.in_err-numbers_verdict.ensures c.from_residual.ensures.1

pub returns : goal.returns
returns c =
    let a = c.args in
    let t = numbers_tests a.xs.now a.ys.now a.method a.left a.right in
    goes_on _ _ t (room_tests (length a.xs.now) (a.nodes - a.place) (a.tags - a.place) (a.slots - slot_count * a.place)) c.numbers_verdict.ensures c.in_ok-numbers_verdict.was
    (rw (c.saturating_sub-nodes_left.ensures, c.saturating_sub-tags_left.ensures, c.slots_from-slots_left.ensures) at c.room_verdict.ensures)

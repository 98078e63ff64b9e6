-- 1 to 8, then the room's tests.
use lib.ListN.{length}
use Rattle.refusal.proofs.First.{stops_here, goes_on}
use Rattle.table.specs.Check.{room_tests}
use Rattle.curve.specs.Build.{seamed_tests}
use Rattle.curve.proofs.build.build_verdict.Goals as goal

pub returns-in_err-seamed_verdict : goal.returns-in_err-seamed_verdict
returns-in_err-seamed_verdict c =
    let a = c.args in
    let t = seamed_tests a.xs.now a.ys.now a.method a.seam in
    stops_here _ t (room_tests (length a.xs.now) a.nodes a.tags a.slots) c.in_err-seamed_verdict.ensures c.from_residual.ensures.1

pub returns : goal.returns
returns c =
    let a = c.args in
    let t = seamed_tests a.xs.now a.ys.now a.method a.seam in
    goes_on _ _ t (room_tests (length a.xs.now) a.nodes a.tags a.slots) c.seamed_verdict.ensures c.in_ok-seamed_verdict.was c.room_verdict.ensures

-- The table's own tests, then the seam's, then the signs'.
use mathlib.Core.List.{[], ◌∷◌}
use lib.ListN.{length}
use Rattle.refusal.proofs.First.{stops_here}
use Rattle.table.specs.Check.{table_tests, seam_test, sign_test}
use Rattle.curve.proofs.build.seamed_verdict.Goals as goal

pub returns-in_err-table_verdict : goal.returns-in_err-table_verdict
returns-in_err-table_verdict c =
    let a = c.args in
    let t = table_tests a.xs.now a.ys.now a.method in
    stops_here _ t (seam_test a.seam (length a.xs.now) ∷ sign_test a.ys.now a.method ∷ []) c.in_err-table_verdict.ensures c.from_residual.ensures.1

-- A cut is an inner knot, and there is no seam.
use native.Mathlib.Omega.{arith}
use mathlib.Core.Path.{sym, ◌∙◌}
use Rattle.table.specs.Table.{middle_at}
use Rattle.assembly.proofs.Places.{node_middle}
use Rattle.sheets.specs.Pieces.{whole}
use Rattle.sheets.proofs.pieces.cut_node.Goals as goal

pub returns : goal.returns
unfolding middle_at
returns c =
    let a = c.args in
    let p = c.requires in
    let lo = p.0 in
    let hi = p.1 in
    c.inner.ensures ∙ sym (node_middle a.xs.now a.ys.now (whole a.method) a.i lo (omega (arith, hi)))

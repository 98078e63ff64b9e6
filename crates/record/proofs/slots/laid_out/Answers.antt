-- An array is the list of its entries.
use mathlib.Core.List.{List, ◌∷◌, ◌++◌}
use mathlib.Core.Path.{sym, ap, ◌∙◌}
use native.Mathlib.Omega.{arith}
use lib.Ieee.{Float, nan}
use Rattle.record.proofs.Cells.{cells, all_cells}
use Rattle.record.proofs.slots.laid_out.Goals as goal

pub returns : goal.returns
returns c =
    let w = c.args.weight in
    let q = c.args.q in
    let o = c.args.o in
    sym
    (ap (λ (l : List Float). w ∷ (l ++ o)) (all_cells nan 12 q (omega arith))
    ∙ ap (λ (l : List Float). w ∷ (cells nan 0 12 q ++ l)) (all_cells nan 11 o (omega arith)))

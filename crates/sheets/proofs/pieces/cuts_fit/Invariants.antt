-- The invariant: every cut passed fits, and the next one is to lie above the last of them.
use Prim.Native.Nat.{◌-◌, ◌≤◌}
use mathlib.Core.Bool.{true}
use mathlib.Core.Path.{◌≡◌}
use lib.ListN.{length}
use Rattle.numbers.specs.Every.{all_below}
use Rattle.sheets.specs.Cuts.{start_of, cut_fits}
use Rattle.sheets.proofs.pieces.cuts_fit.Given as goal

abbrev pub invariant-loop-cut : goal.invariant-loop-cut
invariant-loop-cut l =
    (l.cut-index ≤ l.cut-index-end) × (l.cut-index-end ≡ length l.cuts) × (l.last ≡ l.points - 1) × (l.before ≡ start_of l.cuts l.cut-index) × (all_below l.cut-index (cut_fits l.cuts l.points) ≡ true)

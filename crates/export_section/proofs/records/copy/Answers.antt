use native.Mathlib.Omega.{arith}
use mathlib.Core.Path.{refl}
use borrow.Author.Rules.{rules}
use lib.ListN.{length-set}
use Rattle.numbers.proofs.Overlay.{overlay_none, overlay_more}
use Rattle.export_section.proofs.records.copy.Goals as goal

pub loop-k-preserved : goal.loop-k-preserved
loop-k-preserved c =
    let l = c.loop-k in
    (omega arith, search rules, search rules, simp length-set (search rules), overlay_more 0 l.k _ _ _ _ _ l.invariant.4 (omega arith) refl)

pub loop-k-init : goal.loop-k-init
loop-k-init c = (search rules, search rules, search rules, refl, overlay_none _ _ _)

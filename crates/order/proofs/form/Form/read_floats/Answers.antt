use native.Mathlib.Omega.{arith}
use native.Mathlib.Nat.{zero-add}
use mathlib.Core.Path.{refl, sym}
use borrow.Author.Rules.{rules}
use lib.ListN.{length-set}
use Rattle.numbers.proofs.Overlay.{overlay_none, overlay_more}
use Rattle.order.proofs.form.Form.read_floats.Goals as goal

pub loop-i-preserved : goal.loop-i-preserved
loop-i-preserved c =
    let l = c.loop-i in
    (omega arith, search rules, search rules, search rules, simp length-set l.invariant.4, overlay_more 0 l.i _ _ _ _ _ l.invariant.5 (sym (zero-add l.i)) c.float_at.ensures)

pub loop-i-init : goal.loop-i-init
loop-i-init c = (search rules, search rules, search rules, search rules, refl, overlay_none 0 _ _)

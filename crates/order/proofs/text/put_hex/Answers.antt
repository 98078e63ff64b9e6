use Prim.Native.Nat.{◌/◌}
use native.Mathlib.Omega.{arith}
use mathlib.Core.Path.{refl, ap, ◌∙◌}
use borrow.Author.Rules.{rules}
use lib.ListN.{length-set}
use Rattle.numbers.proofs.Overlay.{overlay_none, overlay_more}
use Rattle.order.specs.Text.{hexadecimal}
use Rattle.order.proofs.Lines.{shifted_none, shifted_more}
use Rattle.order.proofs.text.put_hex.Goals as goal

pub loop-k-preserved : goal.loop-k-preserved
loop-k-preserved c =
    let l = c.loop-k in
    let w = c.args.w in (
      omega arith,
      search rules,
      search rules,
      simp length-set l.invariant.3,
      overlay_more _ l.k _ _ _ _ _ l.invariant.4 refl (c.hexadecimal.ensures ∙ ap (λ s. hexadecimal (s / 0x1000_0000_0000_0000)) l.invariant.5),
      shifted_more w l.k l.left l.invariant.5,
      omega arith,
    )

pub loop-k-init : goal.loop-k-init
loop-k-init c = (search rules, search rules, search rules, refl, overlay_none _ _ _, shifted_none _, search rules)

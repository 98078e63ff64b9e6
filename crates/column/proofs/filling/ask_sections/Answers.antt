use Prim.Native.Nat.{◌*◌}
use native.Mathlib.Omega.{arith}
use native.Mathlib.Nat.{add-sub_cancel_left}
use mathlib.Core.Path.{refl, ap, ◌∙◌}
use borrow.Author.Rules.{rules}
use lib.ListN.{length-set}
use Rattle.numbers.specs.Sizes.{slot_count}
use Rattle.numbers.proofs.Overlay.{overlay_none, overlay_more}
use Rattle.record.specs.Number.{or_zero}
use Rattle.column.proofs.filling.ask_sections.Goals as goal

pub loop-i-preserved : goal.loop-i-preserved
loop-i-preserved c =
    let l = c.loop-i in
    let told = rw (add-sub_cancel_left (slot_count * l.i) slot_count) at c.primitive_in-answer.ensures in (
      search rules,
      search rules,
      search rules,
      search rules,
      search rules,
      search rules,
      simp length-set l.invariant.6,
      overlay_more 0 l.i _ _ _ _ _ l.invariant.7 (omega arith) (c.or_zero.ensures ∙ ap or_zero told),
    )

pub loop-i-init : goal.loop-i-init
loop-i-init c = (search rules, search rules, search rules, search rules, search rules, search rules, refl, overlay_none 0 _ _)

use Prim.Native.Nat.{◌+◌, ◌*◌}
use native.Mathlib.Omega.{arith}
use native.Mathlib.Nat.{add-sub_cancel_left}
use mathlib.Core.Path.{◌≡◌, refl, ap, ◌∙◌}
use borrow.Author.Rules.{rules}
use lib.ListN.{length, get_or, length-set}
use Rattle.numbers.specs.Sizes.{slot_count}
use Rattle.numbers.proofs.Ways.{returned}
use Rattle.record.specs.Number.{or_zero}
use Rattle.column.specs.Steps.{Within, Asked}
use Rattle.column.proofs.Listed.{number_asked, entry_kept}
use Rattle.column.proofs.filling.ask_listed.Goals as goal
use Rattle.column.proofs.filling.ask_listed.Goals.{then-is_unusual, else-is_unusual}

pub loop-k-preserved : goal.loop-k-preserved
loop-k-preserved c =
    let here : let a = c.args in
    Within (length a.xs.now) (length a.tags.now) (length a.slots.now) (length a.column.now) (get_or a.places.now c.loop-k.k 0) = c.loop-k.invariant.3 c.loop-k.k c.loop-k-test.true in
    let asked_more : let l = c.loop-k in
    let a = c.args in
    (length c.if-is_unusual.column ≡ length a.column.now)
    × Asked a.xs.now a.tags.now a.slots.now a.places.now (l.k + 1) a.column.now c.if-is_unusual.column = let l = c.loop-k in
    let a = c.args in
    let i = get_or a.places.now l.k 0 in
    let within = here in
    let told = rw (add-sub_cancel_left (slot_count * i) slot_count) at c.is_unusual.ensures in
    elim c.if-is_unusual.branch [
      | then-is_unusual w ↦ (
        ap length w.column-is ∙ simp length-set l.invariant.2,
        rw w.column-is
            (number_asked a.xs.now a.tags.now a.slots.now a.places.now l.k i a.column.now l.column l.invariant.4 refl _ (omega arith)
            (returned told w.if-is_unusual.true)
            (w.or_zero.ensures ∙ ap or_zero (rw (add-sub_cancel_left (slot_count * i) slot_count) at w.primitive_in.ensures))),
      )
      | else-is_unusual w ↦ (
        ap length w.column-is ∙ l.invariant.2,
        rw w.column-is
            (entry_kept a.xs.now a.tags.now a.slots.now a.places.now l.k i a.column.now l.column l.invariant.4 refl (returned told w.if-is_unusual.false)),
      )
    ] in
    let more = asked_more in (search rules, search rules, more.0, c.loop-k.invariant.3, more.1)

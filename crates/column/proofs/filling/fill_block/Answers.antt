-- The starts, and over them the numbers of what is listed and unusual; what is not listed stays.
use Prim.Native.Nat.{◌+◌, ◌-◌}
use native.Mathlib.Omega.{arith}
use mathlib.Core.Bool.{Bool, true}
use mathlib.Core.Path.{◌≡◌, sym, ap, ◌∙◌}
use Rattle.numbers.specs.Overlay.{overlay}
use Rattle.column.specs.Steps.{entry_by}
use Rattle.column.proofs.Filled.{with_splits}
use Rattle.column.proofs.Listed.{block_filled}
use Rattle.column.proofs.filling.fill_block.Goals as goal

pub returns : goal.returns
returns c =
    let a = c.args in
    let starts = c.fill_starts in
    let forced : a.positive ≡ true = c.if-not-positive.false in
    with_splits a.mixing a.xs.now a.tags.now a.slots.now a.from (a.to - a.from) a.column.now _ starts.ensures _ (omega arith)
    (block_filled a.xs.now a.tags.now a.slots.now a.from a.to _ _ _ _ c.list_splits-count.ensures c.ask_listed.ensures c.requires.0 (omega (arith, c.requires.5, starts.auto.column)))
    ∙ ap (λ (b : Bool). overlay a.from (a.to - a.from) (λ k. entry_by a.mixing b a.xs.now a.tags.now a.slots.now (a.from + k)) a.column.now) (sym forced)

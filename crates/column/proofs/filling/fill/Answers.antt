-- The entries of a table of ordinary size are read off its records, and of any other each section is asked; the tail
-- gives the last.
use Prim.Native.Nat.{◌+◌, ◌-◌}
use native.Mathlib.Omega.{arith}
use mathlib.Core.Path.{◌≡◌, ap, ◌∙◌}
use lib.ListN.{length}
use Rattle.numbers.specs.Overlay.{overlay}
use Rattle.numbers.proofs.Overlay.{overlay_same}
use Rattle.numbers.proofs.Ways.{returned}
use Rattle.section.specs.EverywhereConstant as constant
use Rattle.section.specs.declared.everywhere_constant.EverywhereConstant.{EverywhereConstant}
use Rattle.table.specs.Table.{at}
use Rattle.column.specs.Column.{column_at}
use Rattle.column.proofs.Filled.{with_last}
use Rattle.column.proofs.JustBuilt.{sound, room, numbers, entries, last}
use Rattle.column.proofs.filling.fill.Goals as goal
use Rattle.column.proofs.filling.fill.Goals.{then-is_readable, else-is_readable}

pub returns : goal.returns
returns c =
    let filled : let a = c.args in
    (length c.if-is_readable.column ≡ length a.column.now)
    × (c.if-is_readable.column ≡ overlay 0 (length a.xs.now - 1) (column_at a.xs.now a.curve a.tags.now a.slots.now) a.column.now) = let a = c.args in
    let n = length a.xs.now - 1 in
    elim c.if-is_readable.branch [
      | then-is_readable w ↦ (
        ap length w.column-is ∙ w.fill_sections.auto.column,
        w.column-is ∙ w.fill_sections.ensures ∙ overlay_same 0 n _ _ a.column.now (entries c.requires.just_built (returned c.is_readable.ensures w.if-is_readable.true)),
      )
      | else-is_readable w ↦ (ap length w.column-is ∙ w.ask_sections.auto.column, w.column-is ∙ w.ask_sections.ensures ∙ overlay_same 0 n _ _ a.column.now (numbers c.requires.just_built))
    ] in
    let a = c.args in
    let e : length a.xs.now - 1 + 1 ≡ length a.xs.now = omega (arith, (sound c.requires.just_built).low) in
    with_last (length a.xs.now - 1) (length a.xs.now) _ _ _ _ filled.1
    (c.primitive.ensures ∙ ap (λ (k : EverywhereConstant). constant.primitive k (at a.xs.now (length a.xs.now - 1))) c.new-constant.ensures ∙ last c.requires.just_built (length a.xs.now - 1) e)
    e

pub ask_sections-requires : goal.ask_sections-requires
ask_sections-requires c =
    let g = room c.requires.just_built in
    (omega arith, g.in_tags, g.in_slots, omega (arith, c.requires.xs_in_bounds), omega (arith, g.high))

pub fill_sections-requires : goal.fill_sections-requires
fill_sections-requires c =
    let g = room c.requires.just_built in
    (omega arith, g.in_tags, g.in_slots, omega (arith, c.requires.xs_in_bounds), omega (arith, g.high))

pub is_readable-requires : goal.is_readable-requires
is_readable-requires c =
    let f = sound c.requires.just_built in
    let g = room c.requires.just_built in
    (f.low, f.same, g.high, g.in_slots)

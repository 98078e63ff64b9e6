use Prim.Native.Nat.{ℕ, ◌+◌, ◌-◌}
use native.Mathlib.Omega.{arith}
use mathlib.Core.Path.{◌≡◌, refl, sym, ap, ◌∙◌}
use borrow.Author.Rules.{rules}
use Rattle.numbers.proofs.Overlay.{overlay_none}
use Rattle.table.specs.Table.{total_at}
use Rattle.assembly.proofs.Rows.{tag_more, record_for_lem, slots_more, total_more}
use Rattle.assembly.proofs.sections.put_sections.Goals as goal

pub loop-i-init : goal.loop-i-init
unfolding total_at
loop-i-init c = (
  search rules,
  search rules,
  search rules,
  search rules,
  search rules,
  search rules,
  search rules,
  search rules,
  refl,
  refl,
  c.requires.by_index,
  refl,
  refl,
  overlay_none 0 _ _,
  overlay_none 0 _ _,
)

pub loop-i-preserved : goal.loop-i-preserved
loop-i-preserved c =
    let l = c.loop-i in
    let a = c.args in
    let x = a.xs.now in
    let y = a.ys.now in
    let s = c.section_at.ensures in
    let p = c.put.ensures in
    let more = total_more x y a.frame l.i _ l.invariant.11 in
    let e : l.i + 1 - 1 ≡ l.i = omega arith in (
      omega arith,
      search rules,
      search rules,
      search rules,
      search rules,
      search rules,
      search rules,
      search rules,
      search rules,
      search rules,
      l.invariant.10,
      more,
      l.invariant.11 ∙ ap (λ (k : ℕ). total_at x y a.frame k) (sym e),
      p.tags ∙ tag_more x y a.frame l.i _ _ _ l.invariant.13 s,
      slots_more x y a.frame l.i _ _ _ _ l.invariant.14 p.slots (record_for_lem x y a.frame l.i _ _ s more),
    )

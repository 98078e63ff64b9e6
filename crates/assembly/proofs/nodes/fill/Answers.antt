use Prim.Native.Nat.{◌+◌, ◌-◌}
use native.Mathlib.Omega.{arith}
use mathlib.Core.Path.{◌≡◌, refl, sym, ap, ◌∙◌}
use borrow.Author.Rules.{rules}
use lib.ListN.{length, length-set}
use Rattle.numbers.specs.Overlay.{overlay}
use Rattle.numbers.proofs.Overlay.{overlay_none, overlay_more}
use Rattle.table.specs.Table.{or_given, middle_at, node_at}
use Rattle.assembly.proofs.Places.{node_middle, all_nodes}
use Rattle.assembly.proofs.nodes.fill.Goals as goal

pub loop-k-init : goal.loop-k-init
loop-k-init c = (search rules, search rules, search rules, search rules, search rules, search rules, refl, overlay_none 1 _ _)

pub loop-k-preserved : goal.loop-k-preserved
loop-k-preserved c =
    let l = c.loop-k in
    let a = c.args in
    let e : l.k + 1 ≡ 1 + l.k = omega arith in (
      omega arith,
      search rules,
      search rules,
      search rules,
      search rules,
      search rules,
      simp length-set l.invariant.6,
      overlay_more 1 l.k _ _ _ _ _ l.invariant.7 e
          (c.middle_at.ensures ∙ ap (middle_at a.xs.now a.ys.now a.frame) e ∙ sym (node_middle a.xs.now a.ys.now a.frame (1 + l.k) (omega arith) (omega arith))),
    )

pub returns : goal.returns
returns c =
    let l = c.loop-k in
    let a = c.args in
    let i = l.invariant in
    let i1 = i.1 in
    let i2 = i.2 in
    let e : l.k ≡ length a.xs.now - 2 = omega arith in
    all_nodes a.xs.now a.ys.now a.frame a.nodes.now _ _ _ _ _ (omega arith) i.5 (omega (arith, i1)) (omega (arith, i1, i2)) (i.7 ∙ ap (λ n. overlay 1 n (λ j. node_at a.xs.now a.ys.now a.frame (1 + j)) a.nodes.now) (omega arith)) (c.or_given.ensures ∙ ap (or_given a.frame.left) c.end_node-left.ensures) (c.or_given-2.ensures ∙ ap (or_given a.frame.right) c.end_node-right.ensures)

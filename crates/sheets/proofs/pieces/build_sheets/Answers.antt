use Rattle.std.specs.Prelude.{Some}
use Prim.Native.Nat.{◌<◌}
use native.Mathlib.Omega.{arith}
use mathlib.Core.Path.{refl}
use borrow.Author.Rules.{rules}
use lib.ListN.{length}
use Rattle.table.specs.Buffers.{buffers}
use Rattle.sheets.proofs.InOrder.{at_first, above, inside, fair_next, onward, fair_last, all_written}
use Rattle.sheets.proofs.pieces.build_sheets.Goals as goal

pub loop-to-init : goal.loop-to-init
loop-to-init c =
    let a = c.args in
    let p = c.requires in
    (search rules, search rules, at_first a.xs.now a.ys.now a.method a.cuts.now (buffers a.nodes.now a.tags.now a.slots.now) p.ready p.cuts_nonzero.1, search rules)

pub cut_node-requires : goal.cut_node-requires
cut_node-requires c =
    let l = c.loop-to in
    let a = c.args in
    let ready = c.requires.ready in
    let h : l.to-index < length a.cuts.now = omega arith in
    let u = above _ _ _ _ _ _ _ _ _ l.invariant.2 _ h refl in
    let v = inside _ _ _ _ _ _ _ _ _ l.invariant.2 _ h refl in
    (omega (arith, u), omega (arith, v), ready.sound.same, ready.room.high)

pub loop-to-preserved : goal.loop-to-preserved
loop-to-preserved c =
    let l = c.loop-to in
    let a = c.args in
    let h : l.to-index < length a.cuts.now = omega arith in
    (omega arith, search rules, onward _ _ _ _ _ _ _ _ _ l.invariant.2 _ h refl c.left_end-left.result (Some c.cut_node.result) _ c.build_sheet-answer.ensures, l.invariant.3)

pub returns : goal.returns
returns c =
    let l = c.loop-to in
    let p = l.invariant.2 in
    let k = c.requires.cuts_nonzero.0 in
    let h : 0 < l.to-index = omega (arith, k) in
    all_written _ _ _ _ _ _ _ _ _ p h _ refl c.left_end-left-2.result _ c.build_sheet-answer-2.ensures

pub build_sheet-answer-requires-clause-fair : goal.build_sheet-answer-requires-clause-fair
build_sheet-answer-requires-clause-fair c =
    let l = c.loop-to in
    let a = c.args in
    let h : l.to-index < length a.cuts.now = omega arith in
    fair_next _ _ _ _ _ _ _ _ _ l.invariant.2 _ h refl _ _ c.left_end-left.ensures c.cut_node.ensures

pub build_sheet-answer-requires-2-clause-fair : goal.build_sheet-answer-requires-2-clause-fair
build_sheet-answer-requires-2-clause-fair c =
    let l = c.loop-to in
    let k = c.requires.cuts_nonzero.0 in
    let h : 0 < l.to-index = omega (arith, k) in
    fair_last _ _ _ _ _ _ _ _ _ l.invariant.2 h _ refl _ c.left_end-left-2.ensures

use Prim.Native.Nat.{◌<◌}
use native.Mathlib.Omega.{arith}
use mathlib.Core.Path.{◌≡◌, refl, sym}
use borrow.Author.Rules.{rules}
use lib.ListN.{length}
use Rattle.numbers.proofs.Every.{all_none, all_more, all_fails}
use Rattle.sheets.specs.Cuts.{cuts_fit}
use Rattle.sheets.proofs.Cuts.{next_start}
use Rattle.sheets.proofs.InOrder.{cut_low, cut_high, cut_here}
use Rattle.sheets.proofs.pieces.cuts_fit.Goals as goal

pub loop-cut-init : goal.loop-cut-init
loop-cut-init c = (search rules, search rules, c.saturating_sub-last.ensures, refl, all_none _)

pub returns-then-cut-before : goal.returns-then-cut-before
unfolding cuts_fit
returns-then-cut-before c =
    let l = c.loop-cut in
    let a = c.args in
    let g : l.cut-index < length a.cuts.now = omega arith in
    sym (all_fails _ _ l.cut-index g (cut_low a.cuts.now a.points l.cut-index _ _ l.invariant.3 refl c.if-cut-before.true))

pub returns-then-last-cut : goal.returns-then-last-cut
unfolding cuts_fit
returns-then-last-cut c =
    let l = c.loop-cut in
    let a = c.args in
    let g : l.cut-index < length a.cuts.now = omega arith in
    sym (all_fails _ _ l.cut-index g (cut_high a.cuts.now a.points l.cut-index _ _ l.invariant.2 refl c.if-last-cut.true))

pub loop-cut-preserved : goal.loop-cut-preserved
loop-cut-preserved c =
    let l = c.loop-cut in
    let a = c.args in (
      omega arith,
      search rules,
      search rules,
      next_start a.cuts.now l.cut-index,
      all_more l.cut-index _ l.invariant.4 (cut_here a.cuts.now a.points l.cut-index _ _ _ l.invariant.3 l.invariant.2 refl c.if-cut-before.false c.if-last-cut.false),
    )

pub returns : goal.returns
unfolding cuts_fit
returns c =
    let l = c.loop-cut in
    let e : l.cut-index ≡ length c.args.cuts.now = omega arith in
    sym (rw e at l.invariant.4)

use Prim.Native.Nat.{ℕ, ◌+◌, ◌*◌}
use native.Mathlib.Nat.{zero-add}
use native.Mathlib.Omega.{arith}
use mathlib.Core.List.{List}
use mathlib.Core.Path.{refl, sym, ap, ◌∙◌}
use borrow.Author.Rules.{rules}
use lib.ListN.{get_or, length-set}
use Rattle.numbers.proofs.Overlay.{overlay_none, overlay_more}
use Rattle.months.specs.Calendar.{start_at}
use Rattle.months.specs.Knots.{days, knot_at}
use Rattle.months.proofs.Listed.{listed_at}
use Rattle.months.proofs.Rising.{month_in}
use Rattle.months.proofs.knots.fill.Goals as goal

pub loop-i-init : goal.loop-i-init
loop-i-init c =
    (search rules, c.requires.0, c.requires.1, refl, overlay_none 0 (knot_at c.args.periods) c.args.knots.now, c.month_starts-starts.ensures)

pub loop-i-preserved : goal.loop-i-preserved
loop-i-preserved c =
    let l = c.loop-i in
    let a = c.args in
    let p = a.periods in
    let h = month_in p l.invariant.1 l.i (search rules) in
    let m = p.first + l.i * p.months in
    let start = ap (λ (t : List ℕ). get_or t m 0) l.invariant.5 ∙ listed_at start_at 1201 m 0 (omega (arith, h)) in (
      search rules,
      l.invariant.1,
      l.invariant.2,
      simp length-set l.invariant.3,
      overlay_more 0 l.i (knot_at p) a.knots.now l.knots l.i _ l.invariant.4 (sym (zero-add l.i)) (ap days start),
      l.invariant.5,
    )

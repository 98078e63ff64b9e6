use native.Mathlib.Omega.{arith}
use mathlib.Core.Path.{sym, ◌∙◌}
use borrow.Author.Rules.{rules}
use Rattle.numbers.proofs.Every.{all_none, all_more, all_fails}
use Rattle.query.proofs.known.are_ordinary.Goals as goal

pub loop-i-preserved : goal.loop-i-preserved
loop-i-preserved c =
    let l = c.loop-i in (
      omega (arith, c.loop-i-test.true),
      l.invariant.1,
      l.invariant.2,
      l.invariant.3,
      all_more l.i _ l.invariant.4 (sym c.is_ordinary_at.ensures ∙ c.if-not-is_ordinary_at.false),
    )

pub returns-then-not-is_ordinary_at : goal.returns-then-not-is_ordinary_at
returns-then-not-is_ordinary_at c =
    let l = c.loop-i in
    sym (all_fails c.args.sections _ l.i c.loop-i-test.true (sym c.is_ordinary_at.ensures ∙ c.if-not-is_ordinary_at.true))

pub loop-i-init : goal.loop-i-init
loop-i-init c = (search rules, search rules, search rules, search rules, all_none _)

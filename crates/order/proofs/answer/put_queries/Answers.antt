use native.Mathlib.Omega.{arith}
use mathlib.Core.Path.{refl, ap, ◌∙◌}
use borrow.Author.Rules.{rules}
use lib.ListN.{length}
use Rattle.numbers.proofs.Overlay.{overlay_none, length_overlay}
use Rattle.order.specs.Answer.{line_of}
use Rattle.order.proofs.Texts.{line_more}
use Rattle.order.proofs.answer.put_queries.Goals as goal

pub loop-k-preserved : goal.loop-k-preserved
loop-k-preserved c =
    let l = c.loop-k in
    let a = c.args in
    let p = c.put_query.ensures in (
      omega arith,
      search rules,
      search rules,
      search rules,
      search rules,
      search rules,
      ap length p ∙ length_overlay _ _ _ _ ∙ l.invariant.6,
      line_more a.form.bytes.now _ a.xs.now a.curve a.tags.now a.slots.now l.k _ _ _ _ _ refl (c.ask-line.ensures ∙ ap (line_of a.xs.now a.curve a.tags.now a.slots.now) c.float_at.ensures) l.invariant.7 p,
    )

pub loop-k-init : goal.loop-k-init
loop-k-init c = (search rules, search rules, search rules, search rules, search rules, search rules, refl, overlay_none 10 _ _)

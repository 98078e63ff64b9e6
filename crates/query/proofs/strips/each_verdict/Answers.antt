use Prim.Native.Nat.{ℕ, ◌+◌, ◌-◌, ◌<◌}
use native.Mathlib.Omega.{arith}
use mathlib.Core.Bool.{true}
use mathlib.Core.Path.{◌≡◌, sym, ap, ◌∙◌}
use borrow.Author.Rules.{rules}
use borrow.Author.Tests.{ltb-true}
use lib.ListN.{length}
use Rattle.numbers.proofs.Ways.{never}
use Rattle.table.specs.Table.{at}
use Rattle.query.specs.Query.{verdict_in}
use Rattle.query.specs.Strip.{total_to}
use Rattle.query.proofs.Answers.{Reaches, reached}
use Rattle.query.proofs.ByParts.{by_totals}
use Rattle.query.proofs.Covering.{none_refused, one_more, one_refused}
use Rattle.query.proofs.strips.each_verdict.Goals as goal
use Rattle.query.proofs.strips.each_verdict.Goals.{then-adjoining, else-adjoining, then-not-asked, else-not-asked}

pub loop-k-preserved : goal.loop-k-preserved
loop-k-preserved c =
    let kept : let a = c.args in let l = c.loop-k in
    c.if-adjoining.asked ≡ true → l.before ≡ total_to a.xs.now a.curve a.tags.now a.slots.now (at a.starts.now l.k) = λ h. let a = c.args in
    let l = c.loop-k in
    let inside : l.k < length a.starts.now = omega (arith, l.invariant.1, c.loop-k-test.true) in
    elim c.if-adjoining.branch [
      | then-adjoining w ↦
          let o : 0 < l.k = ltb-true 0 l.k (sym w.asked-is ∙ h) in
          let e : l.k - 1 + 1 ≡ l.k = omega (arith, o) in
          l.invariant.4 o
          ∙ ap (total_to a.xs.now a.curve a.tags.now a.slots.now)
          (sym (c.requires.k_value w.if-adjoining.true (l.k - 1) (omega (arith, o, inside))) ∙ ap (at a.starts.now) e)
      | else-adjoining w ↦ never (sym w.asked-is ∙ h) w.if-adjoining.false
    ] in
    let here : let a = c.args in let l = c.loop-k in
    (c.if-not-asked.before ≡ total_to a.xs.now a.curve a.tags.now a.slots.now (at a.starts.now l.k)) × (c.if-not-asked.place + 1 < length a.xs.now) = let l = c.loop-k in
    elim c.if-not-asked.branch [
      | then-not-asked w ↦ (w.before-is ∙ w.look-since.ensures.answer, omega (arith, w.place-is, w.look-since.ensures.place))
      | else-not-asked w ↦ (w.before-is ∙ kept w.if-not-asked.false, omega (arith, w.place-is, l.invariant.2))
    ] in
    let a = c.args in
    let l = c.loop-k in
    let e : l.k ≡ l.k + 1 - 1 = omega arith in (
      omega (arith, c.loop-k-test.true),
      l.invariant.1,
      c.look-until.ensures.place,
      one_more l.k _ l.invariant.3
          (sym (ap verdict_in (by_totals a.xs.now a.curve a.tags.now a.slots.now (at a.starts.now l.k) (at a.ends.now l.k) _ _ _ here.0 c.look-until.ensures.answer c.strip_of.ensures)) ∙ sym c.verdict.ensures ∙ c.in_default.is),
      (λ o. c.look-until.ensures.answer ∙ ap (λ (i : ℕ). total_to a.xs.now a.curve a.tags.now a.slots.now (at a.ends.now i)) e),
    )

pub returns-in-Err : goal.returns-in-Err
returns-in-Err c =
    let kept : let a = c.args in let l = c.loop-k in
    c.if-adjoining.asked ≡ true → l.before ≡ total_to a.xs.now a.curve a.tags.now a.slots.now (at a.starts.now l.k) = λ h. let a = c.args in
    let l = c.loop-k in
    let inside : l.k < length a.starts.now = omega (arith, l.invariant.1, c.loop-k-test.true) in
    elim c.if-adjoining.branch [
      | then-adjoining w ↦
          let o : 0 < l.k = ltb-true 0 l.k (sym w.asked-is ∙ h) in
          let e : l.k - 1 + 1 ≡ l.k = omega (arith, o) in
          l.invariant.4 o
          ∙ ap (total_to a.xs.now a.curve a.tags.now a.slots.now)
          (sym (c.requires.k_value w.if-adjoining.true (l.k - 1) (omega (arith, o, inside))) ∙ ap (at a.starts.now) e)
      | else-adjoining w ↦ never (sym w.asked-is ∙ h) w.if-adjoining.false
    ] in
    let here : let a = c.args in let l = c.loop-k in
    (c.if-not-asked.before ≡ total_to a.xs.now a.curve a.tags.now a.slots.now (at a.starts.now l.k)) × (c.if-not-asked.place + 1 < length a.xs.now) = let l = c.loop-k in
    elim c.if-not-asked.branch [
      | then-not-asked w ↦ (w.before-is ∙ w.look-since.ensures.answer, omega (arith, w.place-is, w.look-since.ensures.place))
      | else-not-asked w ↦ (w.before-is ∙ kept w.if-not-asked.false, omega (arith, w.place-is, l.invariant.2))
    ] in
    let a = c.args in
    let l = c.loop-k in
    one_refused (length a.starts.now) l.k _ _ (omega (arith, l.invariant.1, c.loop-k-test.true)) l.invariant.3
    (sym (ap verdict_in (by_totals a.xs.now a.curve a.tags.now a.slots.now (at a.starts.now l.k) (at a.ends.now l.k) _ _ _ here.0 c.look-until.ensures.answer c.strip_of.ensures)) ∙ sym c.verdict.ensures ∙ c.in-Err.is)

pub loop-k-init : goal.loop-k-init
loop-k-init c =
    let fits : let a = c.args in Reaches a.xs.now (length a.tags.now) (length a.slots.now) = let a = c.args in reached a.xs.now (length a.tags.now) (length a.slots.now) c.requires.slots_value.0 in
    (search rules, search rules, omega (arith, fits.low), none_refused _, (λ h. absurd (omega (arith, h))))

use Rattle.std.specs.Prelude.{Ok}
use Prim.Native.Nat.{ℕ, ◌+◌, ◌-◌, ◌<◌}
use native.Mathlib.Omega.{arith}
use mathlib.Core.Bool.{true}
use mathlib.Core.Path.{◌≡◌, refl, sym, ap, ◌∙◌}
use borrow.Author.Rules.{rules}
use borrow.Author.Tests.{ltb-true}
use lib.ListN.{length, length-set}
use Rattle.numbers.proofs.Ways.{never}
use Rattle.numbers.proofs.Overlay.{overlay_none, overlay_more}
use Rattle.section.specs.Section.{primitive}
use Rattle.table.specs.Table.{at}
use Rattle.section.specs.declared.section.Section.{Section}
use Rattle.record.specs.Number.{answer_in, or_zero}
use Rattle.query.specs.Many.{formula_at}
use Rattle.query.specs.Query.{covering, verdict_in}
use Rattle.query.specs.Strip.{strip_at}
use Rattle.query.proofs.Answers.{Reaches, reached}
use Rattle.query.proofs.ByParts.{by_parts, priced_so}
use Rattle.query.proofs.Covering.{all_accepted, told}
use Rattle.query.proofs.strips.fill.Goals as goal
use Rattle.query.proofs.strips.fill.Goals.{then-adjoining, else-adjoining, then-not-known, else-not-known}

pub loop-k-preserved : goal.loop-k-preserved
loop-k-preserved c =
    let fine : (k : ℕ) → let a = c.args in k < length a.starts.now →
    verdict_in (strip_at a.xs.now a.curve a.tags.now a.slots.now (at a.starts.now k) (at a.ends.now k)) ≡ Ok tt = λ k l. all_accepted _ _ c.requires.ends_value.0 k l in
    let kept : let a = c.args in let l = c.loop-k in
    c.if-adjoining.known ≡ true → l.before ≡ formula_at primitive a.xs.now a.curve a.tags.now a.slots.now (at a.starts.now l.k) = λ h. let a = c.args in
    let l = c.loop-k in
    let inside : l.k < length a.starts.now = omega (arith, l.invariant.1, c.loop-k-test.true) in
    elim c.if-adjoining.branch [
      | then-adjoining w ↦
          let o : 0 < l.k = ltb-true 0 l.k (sym w.known-is ∙ h) in
          let e : l.k - 1 + 1 ≡ l.k = omega (arith, o) in
          l.invariant.5 o
          ∙ ap (formula_at primitive a.xs.now a.curve a.tags.now a.slots.now)
          (sym (c.requires.k_value w.if-adjoining.true (l.k - 1) (omega (arith, o, inside))) ∙ ap (at a.starts.now) e)
      | else-adjoining w ↦ never (sym w.known-is ∙ h) w.if-adjoining.false
    ] in
    let total : (k : ℕ) → let a = c.args in k < length a.starts.now →
    (or_zero (answer_in (λ (s : Section). primitive s (at a.starts.now k)) (covering a.xs.now a.curve a.tags.now a.slots.now (at a.starts.now k)))
    ≡ formula_at primitive a.xs.now a.curve a.tags.now a.slots.now (at a.starts.now k))
    × (or_zero (answer_in (λ (s : Section). primitive s (at a.ends.now k)) (covering a.xs.now a.curve a.tags.now a.slots.now (at a.ends.now k)))
    ≡ formula_at primitive a.xs.now a.curve a.tags.now a.slots.now (at a.ends.now k)) = λ k l. let a = c.args in
    let n = by_parts a.xs.now a.curve a.tags.now a.slots.now (at a.starts.now k) (at a.ends.now k) (fine k l) in (
      told a.xs.now a.curve a.tags.now a.slots.now (at a.starts.now k) primitive n.0,
      told a.xs.now a.curve a.tags.now a.slots.now (at a.ends.now k) primitive n.1,
    ) in
    let here : let a = c.args in let l = c.loop-k in
    (c.if-not-known.before ≡ formula_at primitive a.xs.now a.curve a.tags.now a.slots.now (at a.starts.now l.k)) × (c.if-not-known.place + 1 < length a.xs.now) = let l = c.loop-k in
    let inside : l.k < length c.args.starts.now = omega (arith, l.invariant.1, c.loop-k-test.true) in
    elim c.if-not-known.branch [
      | then-not-known w ↦ (w.before-is ∙ w.total_near-from.ensures.number ∙ (total l.k inside).0, omega (arith, w.place-is, w.total_near-from.ensures.place))
      | else-not-known w ↦ (w.before-is ∙ kept w.if-not-known.false, omega (arith, w.place-is, l.invariant.2))
    ] in
    let a = c.args in
    let l = c.loop-k in
    let t = c.loop-k-test.true in
    let inside : l.k < length a.starts.now = omega (arith, l.invariant.1, t) in
    let to = c.total_near-to.ensures.number ∙ (total l.k inside).1 in
    let e : l.k ≡ l.k + 1 - 1 = omega arith in (
      omega (arith, t),
      l.invariant.1,
      c.total_near-to.ensures.place,
      simp length-set l.invariant.3,
      overlay_more 0 l.k _ _ _ _ _ l.invariant.4 (omega arith)
          (priced_so a.xs.now a.curve a.tags.now a.slots.now (at a.starts.now l.k) (at a.ends.now l.k) (fine l.k inside) _ _ here.0 to),
      (λ o. to ∙ ap (λ (i : ℕ). formula_at primitive a.xs.now a.curve a.tags.now a.slots.now (at a.ends.now i)) e),
    )

pub loop-k-init : goal.loop-k-init
loop-k-init c =
    let fits : let a = c.args in Reaches a.xs.now (length a.tags.now) (length a.slots.now) = let a = c.args in reached a.xs.now (length a.tags.now) (length a.slots.now) c.requires.slots_value.0 in
    (search rules, search rules, omega (arith, fits.low), refl, overlay_none 0 _ _, (λ h. absurd (omega (arith, h))))

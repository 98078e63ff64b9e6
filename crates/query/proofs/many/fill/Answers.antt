use Rattle.std.specs.Prelude.{Ok}
use Prim.Native.Nat.{ℕ, ◌<◌}
use native.Mathlib.Omega.{arith}
use mathlib.Core.Bool.{true}
use mathlib.Core.Path.{◌≡◌, refl, sym, ap, ◌∙◌}
use borrow.Author.Rules.{rules}
use lib.Ieee.{Float}
use lib.ListN.{length, length-set}
use Rattle.numbers.proofs.Overlay.{overlay_none, overlay_more}
use Rattle.section.specs.declared.section.Section.{Section}
use Rattle.table.specs.Table.{at}
use Rattle.query.specs.Query.{covering, number_in, verdict_in, QueryAnswer}
use Rattle.query.specs.Many.{ask_at}
use Rattle.query.specs.Steps.{figure}
use Rattle.query.proofs.Answers.{Reaches, reached}
use Rattle.query.proofs.Covering.{asked_of_point, all_accepted, none_refused, one_more, one_refused, own_accepted}
use Rattle.query.proofs.many.fill.Goals as goal
use Rattle.query.proofs.many.fill.Goals.{then-not-known+in_default, else-not-known}

pub loop-i-preserved : goal.loop-i-preserved
loop-i-preserved c =
    let fine : (k : ℕ) → let a = c.args in a.known ≡ true → k < length a.qs.now → verdict_in (ask_at (figure a.wanted) a.xs.now a.curve a.tags.now a.slots.now (at a.qs.now k)) ≡ Ok tt = λ k h l. all_accepted _ _ (c.requires.qs_value h) k l in
    let asked : Float → QueryAnswer = λ q. let a = c.args in ask_at (figure a.wanted) a.xs.now a.curve a.tags.now a.slots.now q in
    let accepted : verdict_in (asked (at c.args.qs.now c.loop-i.i)) ≡ Ok tt = let l = c.loop-i in
    let inside : l.i < length c.args.qs.now = omega (arith, l.invariant.1, c.loop-i-test.true) in
    elim c.if-not-known.branch [
      | then-not-known+in_default w ↦ sym (ap verdict_in c.look-looked.ensures.answer) ∙ sym w.verdict.ensures ∙ w.in_default.is
      | else-not-known w ↦ fine l.i w.if-not-known.false inside
    ] in
    let l = c.loop-i in
    let t = c.loop-i-test.true in
    let e = accepted in (
      omega (arith, t),
      l.invariant.1,
      c.look-looked.ensures.place,
      simp length-set l.invariant.3,
      one_more l.i _ l.invariant.4 e,
      overlay_more 0 l.i _ _ _ _ _ l.invariant.5 (omega arith) (c.number.ensures ∙ ap number_in c.look-looked.ensures.answer),
    )

pub returns-in-Err : goal.returns-in-Err
returns-in-Err c =
    let l = c.loop-i in
    record {
      verdict = one_refused (length c.args.qs.now) l.i _ _ (omega (arith, l.invariant.1, c.loop-i-test.true)) l.invariant.4
          (sym (ap verdict_in c.look-looked.ensures.answer) ∙ sym c.verdict.ensures ∙ c.in-Err.is);
      out = l.invariant.5;
    }

pub look-looked-requires : goal.look-looked-requires
look-looked-requires c =
    let fine : (k : ℕ) → let a = c.args in a.known ≡ true → k < length a.qs.now → verdict_in (ask_at (figure a.wanted) a.xs.now a.curve a.tags.now a.slots.now (at a.qs.now k)) ≡ Ok tt = λ k h l. all_accepted _ _ (c.requires.qs_value h) k l in
    let a = c.args in
    let l = c.loop-i in
    let q = at a.qs.now l.i in
    let inside : l.i < length a.qs.now = omega (arith, l.invariant.1, c.loop-i-test.true) in record {
      slots_value = (c.requires.slots_value.0, l.invariant.2);
      q_value = (λ h. own_accepted (λ (k : Section). figure a.wanted k q) _ (covering a.xs.now a.curve a.tags.now a.slots.now q)
          (ap verdict_in (asked_of_point a.xs.now a.curve a.tags.now a.slots.now q (figure a.wanted) c.requires.slots_value.0) ∙ fine l.i h inside));
    }

pub loop-i-init : goal.loop-i-init
loop-i-init c =
    let fits : let a = c.args in Reaches a.xs.now (length a.tags.now) (length a.slots.now) = let a = c.args in reached a.xs.now (length a.tags.now) (length a.slots.now) c.requires.slots_value.0 in
    (search rules, search rules, omega (arith, fits.low), refl, none_refused _, overlay_none 0 _ _)

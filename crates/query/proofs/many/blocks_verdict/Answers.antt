use Rattle.std.specs.Prelude.{Err}
use Rattle.refusal.specs.Refusal.{Verdict}
use Prim.Native.Nat.{ℕ, ◌+◌, ◌-◌, ◌≤◌, ◌<◌}
use native.Mathlib.Nat.{add-sub_cancel_left}
use native.Mathlib.Omega.{arith}
use mathlib.Core.List.{List}
use mathlib.Core.Path.{◌≡◌, refl, sym, ap, ◌∙◌}
use lib.Ieee.{Float}
use lib.ListN.{length, take, drop, length-drop}
use lib.Seq.{length-take-le}
use Rattle.numbers.proofs.Overlay.{length_overlay}
use Rattle.numbers.proofs.Ways.{never}
use Rattle.table.specs.Table.{at}
use Rattle.query.specs.Query.{verdict_in}
use Rattle.query.specs.Many.{ManyAnswer, first_refused, ask_at}
use Rattle.query.specs.Steps.{figure}
use Rattle.query.proofs.Answers.{reached, first_number}
use Rattle.query.proofs.Covering.{none_refused, named, block_answered, block_refused, not_as_all, part_same}
use Rattle.query.proofs.many.blocks_verdict.Goals as goal

-- what is said of the queries of a block, of all queries' own places
told_of : (each : Float → Verdict) (qs : List Float) (from m : ℕ) (r : ManyAnswer) → from + m ≤ length qs →
    r ≡ first_refused (length (take (from + m - from) (drop from qs))) (λ i. each (at (take (from + m - from) (drop from qs)) i)) →
    r ≡ first_refused m (λ j. each (at qs (from + j)))
told_of each qs from m r l e =
    e
    ∙ ap (λ (n : ℕ). first_refused (length (take n (drop from qs))) (λ i. each (at (take n (drop from qs)) i))) (add-sub_cancel_left from m)
    ∙ part_same each qs from m l

pub loop-from-preserved : goal.loop-from-preserved
loop-from-preserved c =
    let each : Float → Verdict = λ q. let a = c.args in verdict_in (ask_at (figure a.wanted) a.xs.now a.curve a.tags.now a.slots.now q) in
    let told = told_of each c.args.qs.now c.loop-from.from c.least.result _ (omega (arith, c.loop-from.invariant.0, c.least.ensures.1)) c.fill.ensures.verdict in
    let l = c.loop-from in
    let m = c.least in
    (omega (arith, l.invariant.0, m.ensures.1), ap length c.fill.ensures.out ∙ length_overlay 0 _ _ _ ∙ l.invariant.1, block_answered (λ k. each (at c.args.qs.now k)) l.from m.result l.invariant.2 (sym told ∙ c.in-Ok.is))

pub returns-in-Err-Query : goal.returns-in-Err-Query
returns-in-Err-Query c =
    let each : Float → Verdict = λ q. let a = c.args in verdict_in (ask_at (figure a.wanted) a.xs.now a.curve a.tags.now a.slots.now q) in
    let told = told_of each c.args.qs.now c.loop-from.from c.least.result _ (omega (arith, c.loop-from.invariant.0, c.least.ensures.1)) c.fill.ensures.verdict in
    let l = c.loop-from in
    let m = c.least in
    rw (c.in-Err-Query.refusal-is, c.in-Err-Query.k-is) (block_refused (λ k. each (at c.args.qs.now k)) (length c.args.qs.now) l.from m.result l.invariant.2 (omega (arith, l.invariant.0, m.ensures.1)) _ _ (sym told ∙ c.in-Err-Query.is ∙ ap Err c.in-Err-Query.field-0-is))

pub overflow_add-result : goal.overflow_add-result
overflow_add-result c =
    let each : Float → Verdict = λ q. let a = c.args in verdict_in (ask_at (figure a.wanted) a.xs.now a.curve a.tags.now a.slots.now q) in
    let told = told_of each c.args.qs.now c.loop-from.from c.least.result _ (omega (arith, c.loop-from.invariant.0, c.least.ensures.1)) c.fill.ensures.verdict in
    let inside : c.in-Err-Query.k < c.least.result = (named _ _ _ _ (sym told ∙ c.in-Err-Query.is ∙ ap Err c.in-Err-Query.field-0-is)).below in
    omega (arith, c.loop-from.invariant.0, c.least.ensures.1, inside)

pub returns-in-Err-Whole : goal.returns-in-Err-Whole
returns-in-Err-Whole c =
    let each : Float → Verdict = λ q. let a = c.args in verdict_in (ask_at (figure a.wanted) a.xs.now a.curve a.tags.now a.slots.now q) in
    let told = told_of each c.args.qs.now c.loop-from.from c.least.result _ (omega (arith, c.loop-from.invariant.0, c.least.ensures.1)) c.fill.ensures.verdict in
    not_as_all _ _ _ (sym told ∙ c.in-Err-Whole.is ∙ ap Err c.in-Err-Whole.field-0-is)

pub fill-requires : goal.fill-requires
fill-requires c = let l = c.loop-from in
    let m = c.least in
    let e = length-take-le (l.from + m.result - l.from) (drop l.from c.args.qs.now) (rw length-drop (omega (arith, l.invariant.0, m.ensures.1))) in
    record { slots_value = (c.requires, omega (arith, e, l.invariant.1, m.ensures.0)); qs_value = (λ h. never h (first_number (reached c.args.xs.now (length c.args.tags.now) (length c.args.slots.now) c.requires))) }

pub loop-from-init : goal.loop-from-init
loop-from-init c = (omega arith, refl, none_refused _)

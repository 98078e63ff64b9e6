use Prim.Native.Nat.{ℕ, ◌+◌, ◌-◌}
use native.Mathlib.Omega.{arith}
use mathlib.Core.Path.{◌≡◌, refl, ap, ◌∙◌}
use borrow.Author.Rules.{rules}
use lib.Ieee.{Float}
use lib.ListN.{length-set}
use Rattle.numbers.specs.Overlay.{overlay}
use Rattle.numbers.proofs.Overlay.{overlay_none, overlay_more}
use Rattle.column.specs.Steps.{start_by}
use Rattle.column.proofs.Filled.{started, carried}
use Rattle.column.proofs.filling.fill_starts.Goals as goal

pub loop-i-preserved : goal.loop-i-preserved
loop-i-preserved c =
    let l = c.loop-i in
    let a = c.args in
    let f : ℕ → Float = λ k. start_by a.mixing a.slots.now (a.from + k) in
    let here : l.i ≡ a.from + (l.i - a.from) = omega arith in
    let more : l.i - a.from + 1 ≡ l.i + 1 - a.from = omega arith in
    let start = started a.mixing a.slots.now l.i _ _ c.start_of.ensures l.invariant.6 ∙ ap (start_by a.mixing a.slots.now) here in (
      search rules,
      search rules,
      search rules,
      search rules,
      search rules,
      simp length-set l.invariant.5,
      carried a.mixing a.slots.now l.i,
      overlay_more a.from (l.i - a.from) f a.column.now l.column l.i _ l.invariant.7 here start ∙ ap (λ (k : ℕ). overlay a.from k f a.column.now) more,
    )

pub loop-i-init : goal.loop-i-init
loop-i-init c =
    let a = c.args in
    let f : ℕ → Float = λ k. start_by a.mixing a.slots.now (a.from + k) in
    let none : 0 ≡ a.from - a.from = omega arith in
    (search rules, search rules, search rules, search rules, search rules, refl, c.total_before-total.ensures, overlay_none a.from f a.column.now ∙ ap (λ (k : ℕ). overlay a.from k f a.column.now) none)

-- Two periods a turn, and the last one alone where they are odd.
use Prim.Native.Nat.{ℕ, ◌+◌, ◌*◌, ◌/◌}
use native.Mathlib.Omega.{arith}
use mathlib.Core.Path.{◌≡◌, sym, ap, ◌∙◌}
use borrow.Author.Rules.{rules}
use Rattle.numbers.specs.Every.{all_below}
use Rattle.numbers.proofs.Every.{all_none, all_and}
use Rattle.assembly.specs.Starts.{period_modest}
use Rattle.column.proofs.Flags.{flag, raised, stays, both_lowered}
use Rattle.column.proofs.filling.are_modest_periods.Goals as goal
use Rattle.column.proofs.filling.are_modest_periods.Goals.{then-not-is_modest_period, else-not-is_modest_period, then-not-is_modest_period-2, else-not-is_modest_period-2}

pub loop-k-init : goal.loop-k-init
loop-k-init c = (search rules, search rules, search rules, ap flag (sym (all_none _)), ap flag (sym (all_none _)))

pub loop-k-preserved : goal.loop-k-preserved
loop-k-preserved c =
    let l = c.loop-k in
    let modest = period_modest c.args.xs.now c.args.ys.now in
    let even : c.if-not-is_modest_period.even ≡ flag (all_below (l.k + 1) (λ j. modest (2 * j))) =
    elim c.if-not-is_modest_period.branch [
      | then-not-is_modest_period w ↦ raised l.k (λ j. modest (2 * j)) l.even _ l.invariant.3 (sym c.is_modest_period.ensures ∙ w.if-not-is_modest_period.true) w.even-is
      | else-not-is_modest_period w ↦ stays l.k (λ j. modest (2 * j)) l.even _ l.invariant.3 (sym c.is_modest_period.ensures ∙ w.if-not-is_modest_period.false) w.even-is
    ] in
    let odd : c.if-not-is_modest_period-2.odd ≡ flag (all_below (l.k + 1) (λ j. modest (2 * j + 1))) =
    elim c.if-not-is_modest_period-2.branch [
      | then-not-is_modest_period-2 w ↦ raised l.k (λ j. modest (2 * j + 1)) l.odd _ l.invariant.4 (sym c.is_modest_period-in-loop-k.ensures ∙ w.if-not-is_modest_period-2.true) w.odd-is
      | else-not-is_modest_period-2 w ↦ stays l.k (λ j. modest (2 * j + 1)) l.odd _ l.invariant.4 (sym c.is_modest_period-in-loop-k.ensures ∙ w.if-not-is_modest_period-2.false) w.odd-is
    ] in
    (search rules, search rules, search rules, even, odd)

pub returns-then-paired-periods : goal.returns-then-paired-periods
returns-then-paired-periods c =
    let l = c.loop-k in
    let modest = period_modest c.args.xs.now c.args.ys.now in
    let half : l.k ≡ c.args.periods / 2 = omega (arith, c.loop-k-test.false, l.auto.k-end) in
    both_lowered l.k modest l.even l.odd l.invariant.3 l.invariant.4
    ∙ ap (λ (n : ℕ). all_below n modest) (ap (λ (k : ℕ). 2 * k) half ∙ c.if-paired-periods.true)

pub returns : goal.returns
returns c =
    let l = c.loop-k in
    let modest = period_modest c.args.xs.now c.args.ys.now in
    let half : l.k ≡ c.args.periods / 2 = omega (arith, c.loop-k-test.false, l.auto.k-end) in
    let last : 2 * (c.args.periods / 2) + 1 ≡ c.args.periods = omega (arith, c.if-paired-periods.false) in
    all_and (2 * (c.args.periods / 2)) modest _ _ c.is_modest_period-2.ensures
    (both_lowered l.k modest l.even l.odd l.invariant.3 l.invariant.4 ∙ ap (λ (k : ℕ). all_below (2 * k) modest) half)
    ∙ ap (λ (n : ℕ). all_below n modest) last

use Prim.Native.Nat.{ℕ, ◌+◌, ◌-◌, ◌≤◌, ◌<◌}
use native.Mathlib.Omega.{arith}
use native.Mathlib.Nat.{zero-add}
use mathlib.Core.Logic.{⊎_elim}
use mathlib.Core.Bool.{Bool}
use mathlib.Core.Path.{◌≡◌, refl, ap, ◌∙◌}
use borrow.Author.Rules.{rules}
use lib.Ieee.{Float}
use Rattle.numbers.specs.Overlay.{overlay}
use Rattle.numbers.proofs.Overlay.{overlay_none, overlay_same}
use Rattle.column.specs.Steps.{entry_by}
use Rattle.column.proofs.Filled.{block_before}
use Rattle.column.proofs.filling.fill_sections.Goals as goal

pub returns : goal.returns
returns c =
    let l = c.loop-to in
    let a = c.args in
    let e : l.to ≡ 0 = omega arith in
    let f : Bool → ℕ → Float = λ m. entry_by m a.method.force_positive a.xs.now a.tags.now a.slots.now in
    let g = f c.is_mixing-mixing.result in
    let all : a.sections - 0 ≡ a.sections = omega arith in
    l.invariant.7
    ∙ ap (λ (t : ℕ). overlay t (a.sections - t) (λ k. g (t + k)) a.column.now) e
    ∙ overlay_same 0 (a.sections - 0) (λ k. g (0 + k)) g a.column.now (λ k u. ap g (zero-add k))
    ∙ ap (λ (n : ℕ). overlay 0 n g a.column.now) all
    ∙ ap (λ (m : Bool). overlay 0 a.sections (f m) a.column.now) c.is_mixing-mixing.ensures

pub loop-to-preserved : goal.loop-to-preserved
loop-to-preserved c =
    let starts : let l = c.loop-to in (c.if-to-gt-BLOCK.from < l.to) × (l.to ≤ c.if-to-gt-BLOCK.from + 64) = ⊎_elim (λ w. omega arith) (λ w. omega arith) c.if-to-gt-BLOCK.branch-raw in
    let e = starts in
    let l = c.loop-to in
    let a = c.args in
    let f : ℕ → Float = entry_by c.is_mixing-mixing.result a.method.force_positive a.xs.now a.tags.now a.slots.now in (
      search rules,
      search rules,
      search rules,
      search rules,
      search rules,
      search rules,
      c.fill_block.auto.column ∙ l.invariant.6,
      block_before f c.if-to-gt-BLOCK.from l.to a.sections a.column.now l.column _ (omega arith) l.invariant.0 l.invariant.7 c.fill_block.ensures,
    )

pub loop-to-init : goal.loop-to-init
loop-to-init c =
    let a = c.args in
    let f : ℕ → Float = λ k. entry_by c.is_mixing-mixing.result a.method.force_positive a.xs.now a.tags.now a.slots.now (a.sections + k) in
    let none : 0 ≡ a.sections - a.sections = omega arith in
    (search rules, search rules, search rules, search rules, search rules, search rules, refl, overlay_none a.sections f a.column.now ∙ ap (λ (k : ℕ). overlay a.sections k f a.column.now) none)

-- One record is read, the last that is kept.
use Prim.Native.Nat.{◌-◌, ◌*◌}
use native.Mathlib.Nat.{add-sub_cancel_left}
use mathlib.Core.Path.{◌≡◌, sym, ap, ◌∙◌}
use Rattle.std.specs.Prelude.{Some, None, Err}
use Rattle.refusal.specs.declared.Refusal.TheVariants.{RecordNotLegal}
use Rattle.refusal.proofs.First.{handed}
use native.Mathlib.Omega.{arith}
use Rattle.numbers.specs.Sizes.{slot_count}
use Rattle.growth.proofs.Seams.{after_none, after_section, after_illegal}
use Rattle.growth.proofs.growth.seam_after.Goals as goal

pub returns-then-count-eq0 : goal.returns-then-count-eq0
returns-then-count-eq0 c = let a = c.args in after_none a.count a.tags.now a.slots.now c.if-count-eq0.true

pub returns : goal.returns
returns c =
    let a = c.args in
    let found : c.read_section.result ≡ Some c.in_ok-section.section = grind arith in
    after_section a.count a.tags.now a.slots.now _ _ c.if-count-eq0.false (sym (rw (add-sub_cancel_left (slot_count * (a.count - 1)) slot_count) at c.read_section.ensures) ∙ found) c.f_next.ensures

pub returns-in_err-section : goal.returns-in_err-section
returns-in_err-section c =
    let a = c.args in
    let none : c.read_section.result ≡ None = grind arith in
    let e : c.in_err-section.field-0.0 ≡ RecordNotLegal = grind arith in
    handed _ c.from_residual.ensures.1 ∙ ap Err e ∙ after_illegal a.count a.tags.now a.slots.now c.if-count-eq0.false (sym (rw (add-sub_cancel_left (slot_count * (a.count - 1)) slot_count) at c.read_section.ensures) ∙ none)

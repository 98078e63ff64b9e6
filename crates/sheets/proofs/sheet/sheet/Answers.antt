-- A refused sheet changes nothing, and an accepted one is made from its place on.
use Rattle.table.specs.Table.{End}
use Rattle.refusal.specs.Refusal.{Verdict}
use Rattle.std.specs.Prelude.{Err, Ok}
use Prim.Native.Nat.{ℕ}
use mathlib.Core.List.{List}
use mathlib.Core.Path.{◌≡◌, refl, sym, ◌∙◌}
use lib.Ieee.{Float}
use lib.ListN.{length}
use Rattle.numbers.proofs.Ways.{returned}
use Rattle.refusal.specs.declared.Refusal.{Refusal}
use Rattle.refusal.proofs.First.{stops, handed}
use Rattle.table.specs.Buffers.{Buffers, Outcome, buffers, judged}
use Rattle.table.specs.Check.{room_tests}
use Rattle.table.specs.declared.ends.Frame.{Frame}
use Rattle.table.proofs.Outcomes.{refused}
use Rattle.assembly.specs.Making.{after}
use Rattle.assembly.specs.Sections.{tail_of}
use Rattle.assembly.specs.declared.sections.Tail.{Tail}
use Rattle.assembly.proofs.Sizes.{was_refused}
use Rattle.sheets.specs.Sheet.{numbers_tests, end_of, SheetBuilt}
use Rattle.sheets.specs.declared.sheet.SheetEnd.{SheetEnd}
use Rattle.sheets.proofs.Parts.{settled, sized, numbers_sound, too_many, outside}
use Rattle.sheets.proofs.sheet.sheet.Goals as goal

module _ (place : ℕ) (x y : List Float) (frame : Frame) (right : End) (v : Verdict) (b c : Buffers) where
  abbrev new : Outcome SheetBuilt
  new = record { answer = Ok (end_of right (tail_of x y frame)); buffers = after place x y frame b }

  not_built : (r : Refusal) → v ≡ Err r → c ≡ b → record { answer = Err r; buffers = c } ≡ judged v Err b new
  not_built r e g = rw (e, g)

  is_built : (s : SheetEnd) (t : Tail) → v ≡ Ok tt → s ≡ end_of right t → t ≡ tail_of x y frame → c ≡ after place x y frame b →
      record { answer = Ok s; buffers = c } ≡ judged v Err b new
  is_built s t e f g h = rw (e, f, g, h)

pub returns-then-xs-gt4096 : goal.returns-then-xs-gt4096
returns-then-xs-gt4096 c =
    let a = c.args in
    let h = sym c.numbers_verdict.ensures ∙ c.in_ok-numbers_verdict.was in
    refused _ Err _ _ _ (settled a.xs.now a.ys.now a.method a.left a.right a.place _ _ _ h ∙ too_many (length a.xs.now) _ _ _ c.if-xs-gt4096.true)

pub returns-then-not-reaches : goal.returns-then-not-reaches
returns-then-not-reaches c =
    let a = c.args in
    let x = a.xs.now in
    let h = sym c.numbers_verdict.ensures ∙ c.in_ok-numbers_verdict.was in
    let s = numbers_sound x a.ys.now a.method a.left a.right h in
    refused _ Err _ _ _
    (settled x a.ys.now a.method a.left a.right a.place _ _ _ h
    ∙ outside a.place (length a.nodes.now) (length a.tags.now) (length a.slots.now) (length x) s.low c.if-xs-gt4096.false (returned c.reaches.ensures c.if-not-reaches.true))

pub returns-in_err-numbers_verdict : goal.returns-in_err-numbers_verdict
returns-in_err-numbers_verdict c =
    let a = c.args in
    let x = a.xs.now in
    rw (handed _ c.from_residual.ensures.1)
    (refused _ Err _ _ _ (sym (stops _ _ (numbers_tests x a.ys.now a.method a.left a.right) (room_tests (length x) _ _ _) c.in_err-numbers_verdict.ensures refl)))

pub returns-in_err-tail : goal.returns-in_err-tail
returns-in_err-tail c =
    let a = c.args in
    let x = a.xs.now in
    let y = a.ys.now in
    let b = buffers a.nodes.now a.tags.now a.slots.now in
    let h = sym c.numbers_verdict.ensures ∙ c.in_ok-numbers_verdict.was in
    let e = sized x y a.method a.left a.right a.place (length b.nodes) (length b.tags) (length b.slots) h in
    let (was, unchanged) = was_refused a.place x y _ _ b _ c.make_from.ensures _ c.in_err-tail.was in
    rw (handed _ c.from_residual-in_err-tail.ensures.1) (not_built a.place x y _ a.right _ b _ _ (e ∙ was) unchanged)

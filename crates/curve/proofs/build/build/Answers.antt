-- A refused table changes nothing, and an accepted one is made.
use Rattle.curve.specs.Curve.{Built}
use Rattle.refusal.specs.Refusal.{Verdict}
use Rattle.std.specs.Prelude.{Err, Ok}
use Prim.Native.Nat.{◌-◌}
use mathlib.Core.Bool.{Bool, false}
use mathlib.Core.List.{List}
use mathlib.Core.Path.{◌≡◌, refl, sym, ◌∙◌}
use lib.Ieee.{Float}
use lib.ListN.{length}
use Rattle.refusal.specs.declared.Refusal.{Refusal}
use Rattle.refusal.proofs.First.{stops, handed}
use Rattle.table.specs.Buffers.{Buffers, Outcome, buffers, judged}
use Rattle.table.specs.Check.{room_tests}
use Rattle.table.specs.declared.ends.Frame.{Frame}
use Rattle.table.proofs.Outcomes as outcomes
use Rattle.assembly.specs.Sections.{tail_of}
use Rattle.assembly.specs.Making.{after}
use Rattle.assembly.specs.declared.sections.Tail.{Tail}
use Rattle.assembly.proofs.Sizes.{was_refused, was_made}
use Rattle.curve.specs.Build.{seamed_tests, build_verdict, curve_of}
use Rattle.curve.proofs.Accepted.{settled}
use Rattle.curve.proofs.build.build.Goals as goal

module _ (x y : List Float) (frame whole : Frame) (hold : Bool) (v : Verdict) (b c : Buffers) (f : frame ≡ whole) where
  abbrev new : Outcome Built
  new = record { answer = curve_of x y whole hold; buffers = after 0 x y whole b }

  not_built : (r : Refusal) → v ≡ Err r → c ≡ b → record { answer = Err r; buffers = c } ≡ judged v Err b new
  not_built r e g = rw (e, g)

  is_built : (t : Tail) → v ≡ Ok tt → t ≡ tail_of x y frame → c ≡ after 0 x y frame b →
      record { answer = Ok (record { sections = length x - 1; held = hold; extrapolates = false; tail = t }); buffers = c } ≡ judged v Err b new
  unfolding curve_of
  is_built t e g h = rw (e, g, h, f)

pub returns-in_err-seamed_verdict : goal.returns-in_err-seamed_verdict
returns-in_err-seamed_verdict c =
    let a = c.args in
    let e = handed _ c.from_residual.ensures.1 in
    rw e (outcomes.refused _ Err _ _ _ (sym (stops _ _ (seamed_tests a.xs.now a.ys.now a.method a.seam) (room_tests (length a.xs.now) _ _ _) c.in_err-seamed_verdict.ensures refl)))

pub returns-in_err-tail : goal.returns-in_err-tail
returns-in_err-tail c =
    let a = c.args in
    let x = a.xs.now in
    let y = a.ys.now in
    let b = buffers a.nodes.now a.tags.now a.slots.now in
    let e = settled x y a.method a.seam (length b.nodes) (length b.tags) (length b.slots) (sym c.seamed_verdict.ensures ∙ c.in_ok-seamed_verdict.was) in
    let f = c.whole_frame-frame.ensures in
    let (refused, unchanged) = was_refused 0 x y _ _ b _ c.make.ensures _ c.in_err-tail.was in
    rw (handed _ c.from_residual-in_err-tail.ensures.1) (not_built x y _ _ a.hold (build_verdict x y a.method a.seam b) b _ f _ (e ∙ refused) unchanged)

pub returns : goal.returns
returns c =
    let a = c.args in
    let x = a.xs.now in
    let y = a.ys.now in
    let b = buffers a.nodes.now a.tags.now a.slots.now in
    let e = settled x y a.method a.seam (length b.nodes) (length b.tags) (length b.slots) (sym c.seamed_verdict.ensures ∙ c.in_ok-seamed_verdict.was) in
    let f = c.whole_frame-frame.ensures in
    let (accepted, tail, filled) = was_made 0 x y _ _ b _ c.make.ensures _ c.in_ok-tail.was in
    is_built x y _ _ a.hold (build_verdict x y a.method a.seam b) b _ f _ (e ∙ accepted) tail filled

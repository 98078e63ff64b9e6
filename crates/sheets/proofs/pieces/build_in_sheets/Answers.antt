-- Cuts that don't fit change nothing, and with those that do it is the build.
use Rattle.curve.specs.Curve.{Built}
use Rattle.std.specs.Prelude.{Err, None, Ok}
use Prim.Native.Nat.{ℕ, ◌-◌, ◌≤◌, ◌<◌}
use native.Mathlib.Omega.{arith}
use mathlib.Core.Bool.{true, false}
use mathlib.Core.List.{List}
use mathlib.Core.Path.{◌≡◌, sym, ◌∙◌}
use lib.Ieee.{Float}
use lib.ListN.{length}
use Rattle.refusal.proofs.First.{handed}
use Rattle.numbers.proofs.Ways.{returned}
use Rattle.refusal.specs.declared.Refusal.{Refusal}
use Rattle.refusal.specs.declared.Refusal.TheVariants.{CutsNotInner}
use Rattle.table.specs.Buffers.{Buffers, Outcome, buffers}
use Rattle.table.specs.declared.method.ConvexMonotone.{ConvexMonotone}
use Rattle.table.specs.declared.ends.Frame.{Frame}
use Rattle.table.proofs.Outcomes as outcomes
use Rattle.assembly.specs.Making.{after}
use Rattle.assembly.specs.Sections.{tail_of}
use Rattle.assembly.specs.declared.sections.Tail.{Tail}
use Rattle.curve.specs.Build.{build_verdict, build_outcome, whole_frame, curve_of}
use Rattle.curve.proofs.Accepted.{accepted_sound, accepted_room}
use Rattle.sheets.specs.Cuts.{cuts_fit}
use Rattle.sheets.specs.InSheets.{in_sheets_outcome}
use Rattle.sheets.specs.Steps.{Ready}
use Rattle.sheets.proofs.InOrder.{three}
use Rattle.sheets.proofs.SameCurve.{whole_frame_lem}
use Rattle.sheets.proofs.pieces.build_in_sheets.Goals as goal

-- an accepted table of three points or more
ready : (x y : List Float) (method : ConvexMonotone) (b : Buffers) → 3 ≤ length x → build_verdict x y method None b ≡ Ok tt → Ready x y method b
ready x y method b low h =
    record {
      low = low;
      sound = accepted_sound x y method None (length b.nodes) (length b.tags) (length b.slots) h;
      room = accepted_room x y method None (length b.nodes) (length b.tags) (length b.slots) h;
    }

module _ (x y : List Float) (method : ConvexMonotone) (cuts : List ℕ) (b : Buffers) where
  unfit : cuts_fit cuts (length x) ≡ false → record { answer = Err CutsNotInner; buffers = b } ≡ in_sheets_outcome x y method cuts b
  unfit h = rw h

  fitting : (o : Outcome Built) → cuts_fit cuts (length x) ≡ true → o ≡ build_outcome x y method false None b → o ≡ in_sheets_outcome x y method cuts b
  fitting o h e = rw h e

  not_built : (r : Refusal) → build_verdict x y method None b ≡ Err r → record { answer = Err r; buffers = b } ≡ build_outcome x y method false None b
  not_built r e = outcomes.refused (build_verdict x y method None b) Err b _ r e

  all_built : (o : Outcome Tail) (frame : Frame) → build_verdict x y method None b ≡ Ok tt → whole_frame (length x) method false None ≡ frame →
      o ≡ record { answer = tail_of x y frame; buffers = after 0 x y frame b } →
      record { answer = Ok (record { sections = length x - 1; held = false; extrapolates = false; tail = o.answer }); buffers = o.buffers } ≡ build_outcome x y method false None b
  unfolding curve_of
  all_built o frame v f e = rw (e, v, f)

pub returns : goal.returns
returns c =
    let a = c.args in
    let x = a.xs.now in
    let y = a.ys.now in
    let u = a.cuts.now in
    let h = returned c.cuts_fit.ensures c.if-not-cuts_fit.false in
    let z = c.if-cuts-eq0.false in
    let k : 0 < length a.cuts.now = omega (arith, z) in
    let b = buffers a.nodes.now a.tags.now a.slots.now in
    let v : build_verdict x y a.method None b ≡ Ok tt = sym c.build_verdict.ensures ∙ c.in_ok-build_verdict.was in
    let r = ready x y a.method b (three u (length x) h k) v in
    let f = whole_frame_lem x y a.method (record { same = r.sound.same; low = r.low }) in
    fitting x y a.method u b _ h (all_built x y a.method u b _ _ v f c.build_sheets-tail.ensures)

pub returns-in_err-build_verdict : goal.returns-in_err-build_verdict
returns-in_err-build_verdict c =
    let a = c.args in
    let b = buffers a.nodes.now a.tags.now a.slots.now in
    let h = returned c.cuts_fit.ensures c.if-not-cuts_fit.false in
    rw (handed _ c.from_residual.ensures.1)
    (fitting a.xs.now a.ys.now a.method a.cuts.now b _ h (not_built a.xs.now a.ys.now a.method a.cuts.now b _ (sym c.in_err-build_verdict.ensures)))

pub build_sheets-tail-requires-clause-ready : goal.build_sheets-tail-requires-clause-ready
build_sheets-tail-requires-clause-ready c =
    let a = c.args in
    let u = a.cuts.now in
    let x = a.xs.now in
    let h = returned c.cuts_fit.ensures c.if-not-cuts_fit.false in
    let z = c.if-cuts-eq0.false in
    let k : 0 < length a.cuts.now = omega (arith, z) in
    ready x a.ys.now a.method (buffers a.nodes.now a.tags.now a.slots.now) (three u (length x) h k) (sym c.build_verdict.ensures ∙ c.in_ok-build_verdict.was)

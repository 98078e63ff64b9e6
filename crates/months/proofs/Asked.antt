-- Build's tests over the knots of periods: those of the knots always pass, and of the others only the averages, the settings, the seam and the room
-- are asked about.
use Rattle.std.specs.Prelude.{Err, Ok, Option}
use Prim.Native.Nat.{ℕ}
use mathlib.Core.Bool.{Bool, true, false, not, cond}
use mathlib.Core.List.{List, [], ◌∷◌}
use mathlib.Core.Path.{◌≡◌, refl, sym, subst, ◌∙◌}
use lib.Dec.{eqb, ltb}
use lib.Ieee.{Float}
use lib.IntN.{ℤ}
use lib.ListN.{length}
use borrow.Author.Tests.{ltb-false, le-ltb}
use Rattle.refusal.specs.Refusal.{first, Verdict}
use Rattle.refusal.specs.declared.Refusal.{Refusal}
use Rattle.refusal.specs.declared.Refusal.TheVariants.{LengthsDiffer, MonotonicityOutside, QuadraticityOutside, AverageNotFinite, SeamTooLong, AverageBelowZero, BufferTooShort}
use Rattle.refusal.proofs.First.{passed, both_accept, first_append}
use Rattle.table.specs.Check.{in_unit, all_finite, seam_too_long, average_below, no_room, room_tests}
use Rattle.table.specs.declared.method.ConvexMonotone.{ConvexMonotone}
use Rattle.table.specs.declared.ends.Seam.{Seam}
use Rattle.table.specs.Buffers.{Buffers}
use Rattle.table.specs.Sound.{Room}
use Rattle.curve.specs.Build.{build_tests}
use Rattle.curve.proofs.Accepted.{accepted_sound, accepted_room}
use Rattle.months.specs.Building.{periods_tests, months_verdict, Monthly, monthly_built, monthly_outcome}
use Rattle.months.specs.Knots.{knot_at, month_knots, room_test}
use Rattle.months.specs.Periods.{periods_asked, periods_of}
use Rattle.months.specs.Steps.{InCalendar, Ready}
use Rattle.months.specs.declared.periods.Size.{Size}
use Rattle.months.specs.declared.periods.Periods.{Periods}
use Rattle.months.proofs.Whole.{was_whole, was_refused}
use Rattle.months.proofs.Listed.{length_listed}
use Rattle.months.proofs.Rising.{few_knots, knots_finite, knots_rise}

-- the two that are 11: room for the knots is asked about before the other room
swapped : (a m q f s b r k : Bool) (A M Q F S B R : Refusal) →
    cond {A = Verdict} a (Err A) (cond m (Err M) (cond q (Err Q) (cond f (Err F) (cond s (Err S) (cond b (Err B) (cond r (Err R) (cond k (Err R) (Ok tt))))))))
    ≡ cond {A = Verdict} a (Err A) (cond m (Err M) (cond q (Err Q) (cond f (Err F) (cond s (Err S) (cond b (Err B) (cond k (Err R) (cond r (Err R) (Ok tt))))))))
swapped a m q f s b true true A M Q F S B R = refl
swapped a m q f s b true false A M Q F S B R = refl
swapped a m q f s b false true A M Q F S B R = refl
swapped a m q f s b false false A M Q F S B R = refl

module _ (p : Periods) (y : List Float) (method : ConvexMonotone) (seam : Option Seam) (knots nodes tags slots : ℕ) (within : InCalendar p) where
  abbrev n : ℕ
  n = p.knots

  abbrev asked : Verdict
  asked = first (periods_tests p y method seam knots nodes tags slots)

  abbrev pub known : Verdict
  known =
      cond (not (eqb n (length y))) (Err LengthsDiffer)
      (cond (not (in_unit method.monotonicity)) (Err MonotonicityOutside)
      (cond (not (in_unit method.quadraticity)) (Err QuadraticityOutside)
      (cond (not (all_finite y)) (Err AverageNotFinite)
      (cond (seam_too_long seam n) (Err SeamTooLong)
      (cond (average_below y method) (Err AverageBelowZero)
      (cond (ltb knots n) (Err BufferTooShort) (first (room_tests n nodes tags slots))))))))

  pub is_asked : known ≡ asked
  is_asked =
      rw (length_listed (knot_at p) 0 n, le-ltb n 2 within.1, knots_finite p within, knots_rise p within, le-ltb 4096 n (few_knots p within))
      (sym (swapped (not (eqb n (length y))) (not (in_unit method.monotonicity)) (not (in_unit method.quadraticity)) (not (all_finite y)) (seam_too_long seam n) (average_below y method) (no_room n nodes tags slots) (ltb knots n) _ _ _ _ _ _ _))

  -- what is accepted has its averages and its room
  pub ready : asked ≡ Ok tt → Ready p (length y) knots nodes tags slots
  ready e =
      let count = length_listed (knot_at p) 0 n in
      let (table, room) = both_accept _ _ (sym (first_append (build_tests (month_knots p) y method seam nodes tags slots) (room_test p knots ∷ [])) ∙ e) in
      let same = (accepted_sound (month_knots p) y method seam nodes tags slots table).same in
      let buffers = accepted_room (month_knots p) y method seam nodes tags slots table in
      (within, sym count ∙ same, ltb-false knots n (passed (room_test p knots ∷ []) room).0, subst (λ (k : ℕ). Room k nodes tags slots) count buffers)

-- A build by months, by the answer about the periods.
module _ (from to : ℤ) (size : Size) (y : List Float) (method : ConvexMonotone) (seam : Option Seam) (knots nodes tags slots : ℕ) where
  pub no_periods : (r : Refusal) → periods_of from to size ≡ Err r → Err r ≡ months_verdict from to size y method seam knots nodes tags slots
  no_periods r e = let (none, is) = was_refused from to size r e in rw (none, is)

  pub of_periods : (p : Periods) → periods_of from to size ≡ Ok p → (v : Verdict) → v ≡ first (periods_tests p y method seam knots nodes tags slots) → v ≡ months_verdict from to size y method seam knots nodes tags slots
  of_periods p e v f =
      let (whole, is) = was_whole from to size p e in
      let g : v ≡ first (periods_tests (periods_asked from to size) y method seam knots nodes tags slots) = subst (λ (q : Periods). v ≡ first (periods_tests q y method seam knots nodes tags slots)) is f in
      rw whole g

module _ (from to : ℤ) (size : Size) (y : List Float) (method : ConvexMonotone) (hold : Bool) (seam : Option Seam) (knots : List Float) (b : Buffers) where
  abbrev verdict_of : Verdict
  verdict_of = months_verdict from to size y method seam (length knots) (length b.nodes) (length b.tags) (length b.slots)

  pub none_built : (r : Refusal) → verdict_of ≡ Err r → record { answer = Err r; knots = knots; buffers = b } ≡ monthly_outcome from to size y method hold seam knots b
  none_built r e = rw e

  pub all_built : (p : Periods) → periods_of from to size ≡ Ok p → verdict_of ≡ Ok tt → (o : Monthly) → o ≡ monthly_built p y method hold seam knots b → o ≡ monthly_outcome from to size y method hold seam knots b
  all_built p e f o g =
      let (_, is) = was_whole from to size p e in
      let h : o ≡ monthly_built (periods_asked from to size) y method hold seam knots b = subst (λ (q : Periods). o ≡ monthly_built q y method hold seam knots b) is g in
      rw f h

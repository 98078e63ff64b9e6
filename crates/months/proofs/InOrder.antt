-- The knots that `month_knots` leaves stand in order, and no build of them is refused for its knots. Stated of the functions, over their contracts.
use Rattle.curve.specs.Curve.{Built}
use Rattle.std.specs.Prelude.{Err, Ok, Option}
use Prim.Native.Nat.{ℕ, ◌+◌, ◌*◌, ◌≤◌}
use native.Mathlib.Omega.{arith}
use native.Mathlib.Nat.{zero-add}
use mathlib.Core.Bool.{Bool, true, false, not, cond}
use mathlib.Core.List.{List, [], ◌∷◌}
use mathlib.Core.Logic.{inr}
use mathlib.Core.Path.{◌≡◌, refl, sym, ap, subst, ◌∙◌}
use borrow.Author.Tests.{ltb-false, not-false, le-ltb}
use lib.Dec.{eqb}
use lib.Ieee.{Float, nan}
use lib.Ieee.Exact.{HasValue}
use lib.IntN.{ℤ}
use lib.ListN.{length}
use Rattle.numbers.specs.OneOutcome.{Follows, pair}
use Rattle.numbers.specs.Overlay.{overlay}
use Rattle.numbers.proofs.Overlay.{length_overlay, overlay_inside, overlay_outside}
use Rattle.numbers.proofs.Ways.{never}
use Rattle.refusal.specs.Refusal.{first, Verdict}
use Rattle.refusal.specs.declared.Refusal.{Refusal}
use Rattle.refusal.specs.declared.Refusal.TheVariants as refusal
use Rattle.refusal.proofs.First.{passed}
use Rattle.table.specs.Buffers.{buffers, outcome}
use Rattle.table.specs.Check.{in_unit, all_finite, seam_too_long, average_below, no_room}
use Rattle.table.specs.Table.{at}
use Rattle.table.specs.declared.method.ConvexMonotone.{ConvexMonotone}
use Rattle.table.specs.declared.ends.Seam.{Seam}
use Rattle.table.proofs.Outcomes as outcomes
use Rattle.curve.specs.Build.{build_tests, build_verdict, curve_of}
use Rattle.curve.proofs.build.build.Reads as build
use Rattle.months.specs.Calendar.{start_at}
use Rattle.months.specs.InOrder.{GoodKnots, InOrder, of_knots}
use Rattle.months.specs.Knots.{knot_at, month_knots, room_test, knots_by, knots_made, MonthKnots}
use Rattle.months.specs.Periods.{months_in, place_of, are_periods, months_test, periods_asked}
use Rattle.months.specs.Steps.{InCalendar}
use Rattle.months.specs.declared.periods.Size.{Size}
use Rattle.months.specs.declared.periods.Periods.{Periods}
use Rattle.months.proofs.Listed.{length_listed, take_filled}
use Rattle.months.proofs.Rising.{days_exact, starts_small, month_in, few_knots, knots_finite, knots_rise}
use Rattle.months.proofs.Shaped.{not_both}
use Rattle.months.proofs.Whole.{some_months, in_calendar, last_knot}
use Rattle.months.proofs.knots.month_knots.Reads as month-knots

abbrev is_made : MonthKnots → Bool
is_made (Ok n) = true
is_made (Err r) = false

abbrev count_or : ℕ → MonthKnots → ℕ
count_or d (Ok n) = n
count_or d (Err r) = d

pub good_knots : (p : Periods) → InCalendar p → GoodKnots (month_knots p)
good_knots p within =
    let count = length_listed (knot_at p) 0 p.knots in
    record { low = rw count within.1; high = rw count (few_knots p within); finite = knots_finite p within; rise = knots_rise p within }

-- what an answer says of the verdict
was_made : (v : Verdict) (p : Periods) (old new : List Float) (n : ℕ) → pair (Ok n) new ≡ knots_by v p old →
    (v ≡ Ok tt) × ((n ≡ p.knots) × (new ≡ overlay 0 p.knots (knot_at p) old))
was_made (Ok tt) p old new n e = (refl, (ap (λ (q : MonthKnots × List Float). count_or 0 q.0) e, ap (λ (q : MonthKnots × List Float). q.1) e))
was_made (Err r) p old new n e = never refl (ap (λ (q : MonthKnots × List Float). is_made q.0) e)

module _ (from to : ℤ) (size : Size) (old : List Float) where
  abbrev p : Periods
  p = periods_asked from to size

  abbrev a : ℕ
  a = place_of from

  abbrev b : ℕ
  b = place_of to

  -- of an accepted order
  module _ (h : first (months_test from to size ∷ room_test p (length old) ∷ []) ≡ Ok tt) where
    whole : are_periods a b (months_in size) ≡ true
    whole = not-false _ (passed (months_test from to size ∷ room_test p (length old) ∷ []) h).0

    room : p.knots ≤ length old
    room = ltb-false _ _ (passed (months_test from to size ∷ room_test p (length old) ∷ []) h).1.0

    within : InCalendar p
    within = in_calendar a b (months_in size) whole (some_months size)

    in_order : InOrder from to size old (overlay 0 p.knots (knot_at p) old) p.knots
    in_order = record {
      each = λ i k.
          subst (λ (x : Float). HasValue x false (start_at (a + i * months_in size)) 1)
          (sym (ap (at (overlay 0 p.knots (knot_at p) old)) (sym (zero-add i)) ∙ overlay_inside 0 p.knots (knot_at p) old i nan k (rw (zero-add p.knots) room)))
          (days_exact _ (starts_small _ (month_in p within i k)));
      last = ap (λ (q : ℕ). a + q * months_in size) (omega arith) ∙ last_knot a b (months_in size) whole;
      good = subst GoodKnots (sym (take_filled (knot_at p) p.knots old nan room)) (good_knots p within);
      beyond = λ i k. overlay_outside 0 p.knots (knot_at p) old i nan (inr (rw (zero-add p.knots) k));
      same = length_overlay 0 p.knots (knot_at p) old;
    }

  pub made_in_order : (new : List Float) (n : ℕ) → pair (Ok n) new ≡ knots_made from to size old → InOrder from to size old new n
  made_in_order new n e =
      let (h, (count, left)) = was_made (first (months_test from to size ∷ room_test p (length old) ∷ [])) p old new n e in
      subst (λ (k : ℕ). InOrder from to size old new k) (sym count) (subst (λ (x : List Float). InOrder from to size old x p.knots) (sym left) (in_order h))

pub month_knots_in_order : Follows month-knots.Post (λ κ a r s.
    let (from, (to, (size, (knots, _)))) = a in
    let (_, (_, (_, (knots_left, _)))) = s in
    (n : ℕ) → r ≡ Ok n → InOrder from to size knots.now knots_left.now n)
month_knots_in_order κ (from, (to, (size, (knots, _)))) r (_, (_, (_, (knots_left, _)))) e n f =
    made_in_order from to size knots.now knots_left.now n (ap (λ (k : MonthKnots). pair k knots_left.now) (sym f) ∙ e)

-- No build of such knots is refused by 4, 5, 7 or 10: the tests that are left tell other refusals.
abbrev refusal_or : Refusal → Verdict → Refusal
refusal_or d (Ok tt) = d
refusal_or d (Err r) = r

pub is_other : (r e : Refusal) → of_knots r ≡ false → ◌≡◌ {A = Verdict} (Err r) (Err e) → of_knots e ≡ false
is_other r e h f = ap of_knots (sym (ap (refusal_or r) f)) ∙ h

others : (a m q f s b r : Bool) (e : Refusal) →
    cond {A = Verdict} a (Err refusal.LengthsDiffer) (cond m (Err refusal.MonotonicityOutside) (cond q (Err refusal.QuadraticityOutside) (cond f (Err refusal.AverageNotFinite) (cond s (Err refusal.SeamTooLong) (cond b (Err refusal.AverageBelowZero) (cond r (Err refusal.BufferTooShort) (Ok tt))))))) ≡ Err e →
    of_knots e ≡ false
others true m q f s b r e h = is_other refusal.LengthsDiffer e refl h
others false true q f s b r e h = is_other refusal.MonotonicityOutside e refl h
others false false true f s b r e h = is_other refusal.QuadraticityOutside e refl h
others false false false true s b r e h = is_other refusal.AverageNotFinite e refl h
others false false false false true b r e h = is_other refusal.SeamTooLong e refl h
others false false false false false true r e h = is_other refusal.AverageBelowZero e refl h
others false false false false false false true e h = is_other refusal.BufferTooShort e refl h
others false false false false false false false e h = not_both (Ok tt) e refl h

pub not_for_knots : (x y : List Float) (method : ConvexMonotone) (seam : Option Seam) (nodes tags slots : ℕ) → GoodKnots x → (e : Refusal) →
    first (build_tests x y method seam nodes tags slots) ≡ Err e → of_knots e ≡ false
not_for_knots x y method seam nodes tags slots g e h =
    others (not (eqb (length x) (length y))) (not (in_unit method.monotonicity)) (not (in_unit method.quadraticity)) (not (all_finite y)) (seam_too_long seam (length x)) (average_below y method) (no_room (length x) nodes tags slots) e
    (rw (le-ltb (length x) 2 g.low, g.finite, g.rise, le-ltb 4096 (length x) g.high) at h)

abbrev pub verdict_in : Built → Verdict
verdict_in (Ok c) = (Ok tt)
verdict_in (Err r) = Err r

pub build_not_for_knots : Follows build.Post (λ κ a r s.
    let (xs, _) = a in
    GoodKnots xs.now → (e : Refusal) → r ≡ Err e → of_knots e ≡ false)
unfolding curve_of
build_not_for_knots κ (xs, (ys, (method, (hold, (seam, (nodes, (tags, (slots, _)))))))) r (_, (_, (_, (_, (_, (nodes_left, (tags_left, (slots_left, _)))))))) post g e f =
    let b = buffers nodes.now tags.now slots.now in
    not_for_knots xs.now ys.now method seam (length nodes.now) (length tags.now) (length slots.now) g e
    (outcomes.was_refused verdict_in (build_verdict xs.now ys.now method seam b) Err (λ r. refl) b _ refl (outcome r nodes_left.now tags_left.now slots_left.now) e post f)

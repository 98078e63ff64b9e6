-- `build_months` answers and leaves what `build` does of the knots of its months. Stated of the function, over its contract.
use Rattle.std.specs.Prelude.{Err, Ok, Option}
use Prim.Native.Nat.{◌≤◌}
use mathlib.Core.Bool.{Bool, true, false}
use mathlib.Core.List.{List, [], ◌∷◌}
use mathlib.Core.Path.{◌≡◌, refl, sym, ap, subst, ◌∙◌}
use borrow.Author.Tests.{le-ltb, not-false}
use lib.Ieee.{Float}
use lib.IntN.{ℤ}
use lib.ListN.{length}
use Rattle.numbers.specs.OneOutcome.{Follows, pair}
use Rattle.refusal.specs.Refusal.{Test, first, and_then, Verdict}
use Rattle.refusal.specs.declared.Refusal.{Refusal}
use Rattle.refusal.specs.declared.Refusal.TheVariants.{MonthsNotPeriods, BufferTooShort}
use Rattle.refusal.proofs.First.{passed, both_accept, first_append}
use Rattle.table.specs.Buffers.{Buffers, buffers, judged}
use Rattle.table.specs.declared.method.ConvexMonotone.{ConvexMonotone}
use Rattle.table.specs.declared.ends.Seam.{Seam}
use Rattle.curve.specs.Build.{build_tests, build_verdict, build_outcome, curve_of}
use Rattle.months.specs.Building.{Monthly, monthly, periods_tests, months_tests, months_verdict, monthly_built, monthly_by, monthly_outcome}
use Rattle.months.specs.InOrder.{InOrder, of_knots}
use Rattle.months.specs.Knots.{month_knots, room_test, knots_made}
use Rattle.months.specs.Periods.{months_in, place_of, months_test, periods_asked}
use Rattle.months.specs.SameBuild.{SameBuild}
use Rattle.months.specs.Steps.{InCalendar}
use Rattle.months.specs.declared.periods.Size.{Size}
use Rattle.months.specs.declared.periods.Periods.{Periods}
use Rattle.months.proofs.InOrder.{good_knots, made_in_order, is_other, not_for_knots, verdict_in}
use Rattle.months.proofs.Shaped.{not_both}
use Rattle.months.proofs.Whole.{some_months, in_calendar}
use Rattle.months.proofs.building.build_months.Reads as build-months

and_accepted : (v : Verdict) → and_then v (Ok tt) ≡ v
and_accepted (Ok tt) = refl
and_accepted (Err r) = refl

module _ (from to : ℤ) (size : Size) (y : List Float) (method : ConvexMonotone) (hold : Bool) (seam : Option Seam) (knots : List Float) (b : Buffers) where
  abbrev p : Periods
  p = periods_asked from to size

  abbrev tests : List Test
  tests = periods_tests p y method seam (length knots) (length b.nodes) (length b.tags) (length b.slots)

  abbrev table : List Test
  table = build_tests (month_knots p) y method seam (length b.nodes) (length b.tags) (length b.slots)

  abbrev new : Monthly
  new = monthly_built p y method hold seam knots b

  abbrev v : Verdict
  v = months_verdict from to size y method seam (length knots) (length b.nodes) (length b.tags) (length b.slots)

  abbrev left : Monthly
  left = monthly_outcome from to size y method hold seam knots b

  -- the answer tells the verdict
  told : v ≡ verdict_in left.answer
  unfolding curve_of
  told = by v
    where
      by : (w : Verdict) → w ≡ verdict_in (monthly_by w knots b (monthly_built p y method hold seam knots b)).answer
      by (Ok tt) = refl
      by (Err r) = refl

  is_nineteen : (months_test from to size).holds ≡ true → left.answer ≡ Err MonthsNotPeriods
  is_nineteen h = rw h

  -- of whole periods
  module _ (h : (months_test from to size).holds ≡ false) where
    of_tests : v ≡ first tests
    of_tests = rw h

    within : InCalendar p
    within = in_calendar (place_of from) (place_of to) (months_in size) (not-false _ h) (some_months size)

    with_room : p.knots ≤ length knots → v ≡ build_verdict (month_knots p) y method seam b
    with_room k =
        of_tests
        ∙ first_append table (room_test p (length knots) ∷ [])
        ∙ ap (and_then (first table)) (rw (le-ltb _ _ k))
        ∙ and_accepted (first table)

    is_same : p.knots ≤ length knots → record { answer = left.answer; buffers = left.buffers } ≡ build_outcome (month_knots p) y method hold seam b
    is_same k =
        ap (λ (w : Verdict). record { answer = (monthly_by w knots b new).answer; buffers = (monthly_by w knots b new).buffers }) (with_room k) ∙ by (build_verdict (month_knots p) y method seam b)
      where
        by : (w : Verdict) → record { answer = (monthly_by w knots b new).answer; buffers = (monthly_by w knots b new).buffers } ≡ judged w Err b (record { answer = new.answer; buffers = new.buffers })
        by (Ok tt) = refl
        by (Err r) = refl

    other_refusal : (e : Refusal) → v ≡ Err e → of_knots e ≡ false
    other_refusal e f = by (first table) refl (room_test p (length knots)).holds refl (sym (first_append table (room_test p (length knots) ∷ [])) ∙ sym of_tests ∙ f)
      where
        by : (w : Verdict) → first table ≡ w → (t : Bool) → (room_test p (length knots)).holds ≡ t → and_then (first table) (first (room_test p (length knots) ∷ [])) ≡ Err e → of_knots e ≡ false
        by (Err r) h t k g = not_for_knots (month_knots p) y method seam (length b.nodes) (length b.tags) (length b.slots) (good_knots p within) e (h ∙ rw h at g)
        by (Ok tt) h true k g = is_other BufferTooShort e refl (rw (h, k) at g)
        by (Ok tt) h false k g = not_both (Err e) e (sym (rw (h, k) at g)) refl

  -- of a curve: nothing was refused
  module _ (accepted : v ≡ Ok tt) where
    holds_not : (months_test from to size).holds ≡ false
    holds_not = (passed (months_tests from to size y method seam (length knots) (length b.nodes) (length b.tags) (length b.slots)) accepted).0

    has_room : (room_test p (length knots)).holds ≡ false
    has_room =
        let e = sym (of_tests holds_not) ∙ accepted in
        (passed (room_test p (length knots) ∷ []) (both_accept (first table) _ (sym (first_append table (room_test p (length knots) ∷ [])) ∙ e)).1).0

    is_ordered : InOrder from to size knots left.knots p.knots
    is_ordered =
        let e : pair (Ok p.knots) new.knots ≡ knots_made from to size knots = rw (holds_not, has_room) in
        subst (λ (w : Verdict). InOrder from to size knots (monthly_by w knots b new).knots p.knots) (sym accepted) (made_in_order from to size knots new.knots p.knots e)

  pub same_build : SameBuild from to size y method hold seam knots b left
  same_build = record {
    nineteen = is_nineteen;
    same = is_same;
    ordered = λ c f. is_ordered (told ∙ ap verdict_in f);
    never = λ e f. by (months_test from to size).holds refl e (told ∙ ap verdict_in f);
  }
    where
      by : (t : Bool) → (months_test from to size).holds ≡ t → (e : Refusal) → v ≡ Err e → of_knots e ≡ false
      by true h e f = is_other MonthsNotPeriods e refl (rw h at f)
      by false h e f = other_refusal h e f

pub build_months_same : Follows build-months.Post (λ κ a r s.
    let (from, (to, (size, (ys, (method, (hold, (seam, (knots, (nodes, (tags, (slots, _))))))))))) = a in
    let (_, (_, (_, (_, (_, (_, (_, (knots_left, (nodes_left, (tags_left, (slots_left, _))))))))))) = s in
    SameBuild from to size ys.now method hold seam knots.now (buffers nodes.now tags.now slots.now) (monthly r knots_left.now nodes_left.now tags_left.now slots_left.now))
build_months_same κ (from, (to, (size, (ys, (method, (hold, (seam, (knots, (nodes, (tags, (slots, _))))))))))) r (_, (_, (_, (_, (_, (_, (_, (knots_left, (nodes_left, (tags_left, (slots_left, _))))))))))) e =
    subst (SameBuild from to size ys.now method hold seam knots.now (buffers nodes.now tags.now slots.now)) (sym e)
    (same_build from to size ys.now method hold seam knots.now (buffers nodes.now tags.now slots.now))

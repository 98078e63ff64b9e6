-- Which refusal is first, in the documents' numbers: of each function that answers an enum, over its contract.
use Rattle.std.specs.Prelude.{Err, Ok}
use mathlib.Core.Bool.{Bool, true, false}
use mathlib.Core.List.{List, [], ◌∷◌}
use mathlib.Core.Path.{◌≡◌, refl, ap, ◌∙◌}
use lib.Ieee.{Float}
use lib.IntN.{ℤ}
use lib.ListN.{length}
use Rattle.numbers.specs.OneOutcome.{Follows}
use Rattle.refusal.specs.Refusal.{first, verdict_number, Verdict}
use Rattle.table.specs.Buffers.{Buffers, buffers}
use Rattle.curve.specs.Build.{curve_of}
use Rattle.curve.specs.Curve.{curve_in_numbers}
use Rattle.months.specs.Building.{Monthly, months_verdict, monthly_by, monthly_built}
use Rattle.months.specs.Knots.{room_test, knots_by, knots_in_numbers, MonthKnots}
use Rattle.months.specs.Periods.{months_in, place_of, are_periods, months_test, periods_asked, periods_of, ordered_in_numbers, Ordered}
use Rattle.months.specs.declared.periods.Size.{Size}
use Rattle.months.specs.declared.periods.Periods.{Periods}
use Rattle.months.proofs.periods.periods_of.Reads as periods-of
use Rattle.months.proofs.knots.month_knots.Reads as month-knots
use Rattle.months.proofs.building.build_months.Reads as build-months

periods_number : (from to : ℤ) (size : Size) → (ordered_in_numbers (periods_of from to size)).0 ≡ verdict_number (first (months_test from to size ∷ []))
periods_number from to size = by (are_periods (place_of from) (place_of to) (months_in size)) refl
  where
    by : (b : Bool) → are_periods (place_of from) (place_of to) (months_in size) ≡ b → (ordered_in_numbers (periods_of from to size)).0 ≡ verdict_number (first (months_test from to size ∷ []))
    by true h = rw h
    by false h = rw h

pub periods_of_in_numbers : Follows periods-of.Post (λ κ a r s. let (from, (to, (size, _))) = a in (ordered_in_numbers r).0 ≡ verdict_number (first (months_test from to size ∷ [])))
periods_of_in_numbers κ (from, (to, (size, _))) r s p = ap (λ (o : Ordered). (ordered_in_numbers o).0) p ∙ periods_number from to size

knots_number : (v : Verdict) (p : Periods) (old : List Float) → (knots_in_numbers (knots_by v p old).0).0 ≡ verdict_number v
knots_number (Ok tt) p old = refl
knots_number (Err r) p old = refl

pub month_knots_in_numbers : Follows month-knots.Post (λ κ a r s.
    let (from, (to, (size, (knots, _)))) = a in
    (knots_in_numbers r).0 ≡ verdict_number (first (months_test from to size ∷ room_test (periods_asked from to size) (length knots.now) ∷ [])))
month_knots_in_numbers κ (from, (to, (size, (knots, _)))) r (_, (_, (_, (knots_left, _)))) e =
    ap (λ (q : MonthKnots × List Float). (knots_in_numbers q.0).0) e
    ∙ knots_number (first (months_test from to size ∷ room_test (periods_asked from to size) (length knots.now) ∷ [])) (periods_asked from to size) knots.now

build_number : (v : Verdict) (knots : List Float) (b : Buffers) (new : Monthly) → (curve_in_numbers new.answer).refusal ≡ 0 → (curve_in_numbers (monthly_by v knots b new).answer).refusal ≡ verdict_number v
build_number (Ok tt) knots b new h = h
build_number (Err r) knots b new h = refl

pub build_months_in_numbers : Follows build-months.Post (λ κ a r s.
    let (from, (to, (size, (ys, (method, (hold, (seam, (knots, (nodes, (tags, (slots, _))))))))))) = a in
    (curve_in_numbers r).refusal ≡ verdict_number (months_verdict from to size ys.now method seam (length knots.now) (length nodes.now) (length tags.now) (length slots.now)))
unfolding curve_of
build_months_in_numbers κ (from, (to, (size, (ys, (method, (hold, (seam, (knots, (nodes, (tags, (slots, _))))))))))) r (_, (_, (_, (_, (_, (_, (_, (knots_left, (nodes_left, (tags_left, (slots_left, _))))))))))) e =
    let b = buffers nodes.now tags.now slots.now in
    let v = months_verdict from to size ys.now method seam (length knots.now) (length nodes.now) (length tags.now) (length slots.now) in
    ap (λ (o : Monthly). (curve_in_numbers o.answer).refusal) e
    ∙ build_number v knots.now b (monthly_built (periods_asked from to size) ys.now method hold seam knots.now b) refl

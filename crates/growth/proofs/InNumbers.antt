-- The contracts in the documents' numbers: past the first window a growing table is refused by 9, then by 15 for the previous curve, then as its build is.
use Rattle.section.specs.declared.section.Section.{Section}
use Rattle.std.specs.Prelude.{Err, None, Ok, Option, Some}
use Prim.Native.Nat.{ℕ, ◌-◌, ◌*◌}
use mathlib.Core.Bool.{Bool, true, false, cond, not, ◌&&◌, ◌||◌}
use mathlib.Core.List.{List, [], ◌∷◌}
use mathlib.Core.Path.{◌≡◌, refl, ap, ◌∙◌}
use lib.Dec.{eqb}
use lib.Ieee.{Float}
use lib.ListN.{length, take, drop, get_or}
use Rattle.numbers.specs.OneOutcome.{Follows}
use Rattle.numbers.specs.Sizes.{slot_count}
use Rattle.refusal.specs.Refusal.{first, verdict_number, and_then, ◌⇒◌, Verdict}
use Rattle.refusal.specs.declared.Refusal.TheVariants.{NoPreviousCurve, RecordNotLegal}
use Rattle.record.specs.Reading.{read_section, is_section}
use Rattle.table.specs.Buffers.{Buffers, Outcome, buffers}
use Rattle.table.specs.declared.ends.Seam.{Seam}
use Rattle.table.specs.declared.method.ConvexMonotone.{ConvexMonotone}
use Rattle.curve.specs.Build.{build_verdict, build_outcome}
use Rattle.curve.specs.Curve.{curve_in_numbers, Built}
use Rattle.curve.specs.declared.curve.Curve.{Curve}
use Rattle.curve.proofs.InNumbers.{built_number}
use Rattle.growth.specs.Growth.{first_window, retained, seam_from, seam_after, beyond, seam_of, seam_of_previous, carried_at, none_before, unreadable, carry_tests, carried_in_numbers, holds, grown, Carried, Previous}
use Rattle.growth.proofs.growth.carry.Reads as carry
use Rattle.growth.proofs.growth.grow.Reads as grow

abbrev verdict_in : Carried → Verdict
verdict_in (Ok s) = (Ok tt)
verdict_in (Err r) = Err r

-- the seam that is carried, where nothing refuses it
abbrev pub seam_in : Carried → Option Seam
seam_in (Ok s) = s
seam_in (Err r) = None

number_in : (k : Carried) → (carried_in_numbers k).0 ≡ verdict_number (verdict_in k)
number_in (Ok None) = refl
number_in (Ok (Some s)) = refl
number_in (Err r) = refl

by_record : (count : ℕ) (none : Bool) (f : Option Section) → verdict_in (cond none (Ok None) (seam_from count f)) ≡ cond (not none && not (is_section f)) (Err RecordNotLegal) (Ok tt)
by_record count true f = refl
by_record count false (Some s) = refl
by_record count false None = refl

by_curve : (curve : Curve) (tags : List ℕ) (slots : List Float) (none far : Bool) →
    verdict_in (cond none (Err NoPreviousCurve) (cond far (Err RecordNotLegal) (seam_after (retained curve) tags slots)))
    ≡ first ((none ⇒ NoPreviousCurve) ∷ (far || (not (eqb (retained curve) 0) && not (is_section (read_section (get_or tags (retained curve - 1) 0) (take slot_count (drop (slot_count * (retained curve - 1)) slots))))) ⇒ RecordNotLegal) ∷ [])
unfolding seam_after
by_curve curve tags slots true far = refl
by_curve curve tags slots false true = refl
by_curve curve tags slots false false = by_record (retained curve) (eqb (retained curve) 0) (read_section (get_or tags (retained curve - 1) 0) (take slot_count (drop (slot_count * (retained curve - 1)) slots)))

by_window : (p : Previous) (tags : List ℕ) (slots : List Float) (within : Bool) →
    verdict_in (cond within (Ok None) (seam_of_previous p tags slots)) ≡ first ((not within && none_before p ⇒ NoPreviousCurve) ∷ (not within && unreadable p tags slots ⇒ RecordNotLegal) ∷ [])
unfolding seam_of
by_window p tags slots true = refl
by_window None tags slots false = refl
by_window (Some curve) tags slots false = by_curve curve tags slots (eqb curve.sections 0) (beyond curve.sections (length tags) (length slots))

carries : (points localisation : ℕ) (p : Previous) (tags : List ℕ) (slots : List Float) → verdict_in (carried_at points localisation p tags slots) ≡ first (carry_tests points localisation p tags slots)
carries points localisation p tags slots = by_window p tags slots (first_window points localisation)

pub carry_in_numbers : Follows carry.Post (λ κ a r s. let (points, (localisation, (before, (tags, (slots, _))))) = a in (carried_in_numbers r).0 ≡ verdict_number (first (carry_tests points localisation before tags.now slots.now)))
carry_in_numbers κ (points, (localisation, (before, (tags, (slots, _))))) r s p =
    ap (λ (k : Carried). (carried_in_numbers k).0) p
    ∙ number_in (carried_at points localisation before tags.now slots.now)
    ∙ ap verdict_number (carries points localisation before tags.now slots.now)

by_seam : (x y : List Float) (method : ConvexMonotone) (hold : Bool) (b : Buffers) (k : Carried) →
    (curve_in_numbers (grown k b (λ s. build_outcome x y method hold s b)).answer).refusal ≡ verdict_number (and_then (verdict_in k) (build_verdict x y method (seam_in k) b))
by_seam x y method hold b (Ok s) = built_number x y method hold s b
by_seam x y method hold b (Err r) = refl

pub grow_in_numbers : Follows grow.Post (λ κ a r s. let (xs, (ys, (method, (localisation, (_, (before, (old_tags, (old_slots, (nodes, (tags, (slots, _))))))))))) = a in (curve_in_numbers r).refusal ≡ verdict_number (and_then (first (carry_tests (length xs.now) localisation before old_tags.now old_slots.now)) (build_verdict xs.now ys.now method (seam_in (carried_at (length xs.now) localisation before old_tags.now old_slots.now)) (buffers nodes.now tags.now slots.now))))
grow_in_numbers κ (xs, (ys, (method, (localisation, (final, (before, (old_tags, (old_slots, (nodes, (tags, (slots, _))))))))))) r s p =
    let b = buffers nodes.now tags.now slots.now in
    let k = carried_at (length xs.now) localisation before old_tags.now old_slots.now in
    ap (λ (o : Outcome Built). (curve_in_numbers o.answer).refusal) p
    ∙ by_seam xs.now ys.now method (holds (length xs.now) final) b k
    ∙ ap (λ (v : Verdict). verdict_number (and_then v (build_verdict xs.now ys.now method (seam_in k) b))) (carries (length xs.now) localisation before old_tags.now old_slots.now)

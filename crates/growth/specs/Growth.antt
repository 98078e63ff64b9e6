-- 01, Refusal numbers: growth; Queries, settings and growth
use Rattle.curve.specs.Curve.{Built}
use Rattle.section.specs.declared.section.Section.{Section}
use Rattle.std.specs.Prelude.{ℕ, ◌+◌, ◌-◌, ◌*◌, Bool, true, false, cond, not, ◌&&◌, ◌||◌, List, [], ◌∷◌, eqb, ltb, Float, length, take, drop, get_or, Result, Ok, Err, Option, Some, None}
use Rattle.section.specs.Section.{f_next}
use Rattle.record.specs.Reading.{read_section, is_section}
use Rattle.numbers.specs.OneOutcome.{pair}
use Rattle.numbers.specs.Sizes.{slot_count}
use Rattle.numbers.specs.Words.{zero}
use Rattle.refusal.specs.Refusal.{Test, number, ◌⇒◌}
use Rattle.refusal.specs.declared.Refusal.{Refusal}
use Rattle.refusal.specs.declared.Refusal.TheVariants.{NoPreviousCurve, RecordNotLegal}
use Rattle.table.specs.Buffers.{Buffers, Outcome}
use Rattle.table.specs.declared.method.ConvexMonotone.{ConvexMonotone}
use Rattle.table.specs.declared.ends.Seam.{Seam}
use Rattle.curve.specs.Build.{build_outcome}
use Rattle.curve.specs.declared.curve.Curve.{Curve}

-- the curve that a table grows from, if there is one
abbrev pub Previous : Type 0
Previous = Option Curve

-- what a growing curve carries over, or why it can't
abbrev pub Carried : Type 0
Carried = Result (Option Seam) Refusal

abbrev pub first_window : ℕ → ℕ → Bool
first_window points localisation = eqb points (localisation + 1)

-- the sections that are kept: all, but a held last one
abbrev pub retained : Curve → ℕ
retained curve = cond curve.held (curve.sections - 1) curve.sections

abbrev pub seam_from : ℕ → Option Section → Carried
seam_from count (Some s) = Ok (Some (record { count = count; node = f_next s }))
seam_from count None = Err RecordNotLegal

-- where the last section that is kept ended
unfoldable pub seam_after : ℕ → List ℕ → List Float → Carried
seam_after count tags slots =
    cond (eqb count 0) (Ok None) (seam_from count (read_section (get_or tags (count - 1) 0) (take slot_count (drop (slot_count * (count - 1)) slots))))

-- a previous curve of more sections than a curve can have, or whose slices do not hold them
abbrev pub beyond : ℕ → ℕ → ℕ → Bool
beyond sections tags slots = ltb 4095 sections || (ltb tags sections || ltb slots (slot_count * sections))

unfoldable pub seam_of : Curve → List ℕ → List Float → Carried
unfolding seam_after
seam_of curve tags slots =
    cond (eqb curve.sections 0) (Err NoPreviousCurve)
    (cond (beyond curve.sections (length tags) (length slots)) (Err RecordNotLegal) (seam_after (retained curve) tags slots))

abbrev pub seam_of_previous : Previous → List ℕ → List Float → Carried
seam_of_previous None tags slots = Err NoPreviousCurve
seam_of_previous (Some curve) tags slots = seam_of curve tags slots

-- the window comes first: inside it nothing is asked of a previous curve
abbrev pub carried_at : ℕ → ℕ → Previous → List ℕ → List Float → Carried
carried_at points localisation p tags slots = cond (first_window points localisation) (Ok None) (seam_of_previous p tags slots)

-- the refusals of a previous curve in their order: past the first window 9, then 15
abbrev pub none_before : Previous → Bool
none_before None = true
none_before (Some curve) = eqb curve.sections 0

abbrev pub unreadable : Previous → List ℕ → List Float → Bool
unreadable None tags slots = false
unreadable (Some curve) tags slots =
    beyond curve.sections (length tags) (length slots)
    || (not (eqb (retained curve) 0) && not (is_section (read_section (get_or tags (retained curve - 1) 0) (take slot_count (drop (slot_count * (retained curve - 1)) slots)))))

abbrev pub carry_tests : ℕ → ℕ → Previous → List ℕ → List Float → List Test
carry_tests points localisation p tags slots =
    (not (first_window points localisation) && none_before p ⇒ NoPreviousCurve)
    ∷ (not (first_window points localisation) && unreadable p tags slots ⇒ RecordNotLegal)
    ∷ []

-- in the documents' numbers: the refusal's, or 0, whether there is a seam, and its count and node
abbrev pub carried_in_numbers : Carried → ℕ × (Bool × (ℕ × Float))
carried_in_numbers (Ok None) = pair 0 (pair false (pair 0 zero))
carried_in_numbers (Ok (Some s)) = pair 0 (pair true (pair s.count s.node))
carried_in_numbers (Err r) = pair (number r) (pair false (pair 0 zero))

-- the last period is held until the table has its last point
abbrev pub holds : ℕ → ℕ → Bool
holds points final = not (eqb points final)

-- what is built with the seam that is carried; or the refusal, with the buffers as they were
abbrev pub grown : Carried → Buffers → (Option Seam → Outcome Built) → Outcome Built
grown (Ok s) old build = build s
grown (Err r) old build = record { answer = Err r; buffers = old }

-- what `grow` answers, and the buffers as it leaves them
abbrev pub grow_outcome : List Float → List Float → ConvexMonotone → ℕ → ℕ → Previous → List ℕ → List Float → Buffers → Outcome Built
grow_outcome x y method localisation final p old_tags old_slots b =
    grown (carried_at (length x) localisation p old_tags old_slots) b (λ s. build_outcome x y method (holds (length x) final) s b)

-- 01, Buffers and section records: a section's slots as a part of the lent slots
use Rattle.std.specs.Prelude.{ℕ, ◌-◌, ◌*◌, List, [], ◌∷◌, ltb, leb, Float, take, drop, Err, Ok}
use Rattle.refusal.specs.Refusal.{Test, ◌⇒◌, first, Verdict}
use Rattle.numbers.specs.Sizes.{slot_count}
use Rattle.refusal.specs.declared.Refusal.TheVariants.{TooFewPoints, TooManyPoints, BufferTooShort, RecordNotLegal}

-- refused in the order 4, 10, 11, 15
abbrev pub record_tests : ℕ → ℕ → ℕ → List Test
record_tests points room number =
    (ltb points 2 ⇒ TooFewPoints)
    ∷ (ltb 4096 points ⇒ TooManyPoints)
    ∷ (ltb room (slot_count * (points - 1)) ⇒ BufferTooShort)
    ∷ (leb (points - 1) number ⇒ RecordNotLegal)
    ∷ []

abbrev pub record_verdict : ℕ → ℕ → ℕ → Verdict
record_verdict points room number = first (record_tests points room number)

abbrev pub record_part : Verdict → List Float → ℕ → List Float
record_part (Ok tt) slots number = take slot_count (drop (slot_count * number) slots)
record_part (Err r) slots number = []

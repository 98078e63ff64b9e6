-- 02, K1: the strip between two knot places, by two entries of the column. K7: it is marked by its own number.
use Rattle.query.specs.Query.{QueryAnswer}
use Rattle.std.specs.Prelude.{ℕ, not, ◌&&◌, List, [], ◌∷◌, ltb, Float, length, Err, Ok}
use Rattle.numbers.specs.Marks.{mark}
use Rattle.numbers.specs.Words.{◌⊖◌, ◌⊘◌}
use Rattle.refusal.specs.Refusal.{Test, ◌⇒◌, first, Verdict}
use Rattle.refusal.specs.declared.Refusal.TheVariants.{TooFewPoints, KnotNotFinite, KnotsNotRising, TooManyPoints, BufferTooShort, StripEndsNotRising}
use Rattle.table.specs.Check.{all_finite, rising}
use Rattle.table.specs.Table.{at}

-- 4, 5, 7, 10, 11 of the column, 18 also for a place past the last
abbrev pub between_tests : List Float → ℕ → ℕ → ℕ → List Test
between_tests x column i j =
    (ltb (length x) 2 ⇒ TooFewPoints)
    ∷ (not (all_finite x) ⇒ KnotNotFinite)
    ∷ (not (rising x) ⇒ KnotsNotRising)
    ∷ (ltb 4096 (length x) ⇒ TooManyPoints)
    ∷ (ltb column (length x) ⇒ BufferTooShort)
    ∷ (not (ltb i j && ltb j (length x)) ⇒ StripEndsNotRising)
    ∷ []

abbrev pub between_by : Verdict → Float → QueryAnswer
between_by (Ok tt) price = Ok (mark price)
between_by (Err r) price = Err r

abbrev pub between_at : List Float → List Float → ℕ → ℕ → QueryAnswer
between_at x column i j = between_by (first (between_tests x (length column) i j)) ((at column j ⊖ at column i) ⊘ (at x j ⊖ at x i))

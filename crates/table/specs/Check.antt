-- 01, Refusal numbers: what is asked of a table
use Rattle.std.specs.Prelude.{ℕ, ◌+◌, ◌-◌, ◌*◌, Bool, false, not, ◌&&◌, ◌||◌, List, [], ◌∷◌, eqb, ltb, leb, Float, length, None, Option, Some}
use Rattle.std.specs.Float.Ieee.{lt, le}
use Rattle.numbers.specs.Every.{all_below}
use Rattle.numbers.specs.Words.{zero, one, finite}
use Rattle.refusal.specs.Refusal.{Test, ◌⇒◌}
use Rattle.numbers.specs.Sizes.{slot_count}
use Rattle.refusal.specs.declared.Refusal.TheVariants.{LengthsDiffer, MonotonicityOutside, QuadraticityOutside, TooFewPoints, KnotNotFinite, AverageNotFinite, KnotsNotRising, SeamTooLong, TooManyPoints, BufferTooShort, AverageBelowZero}
use Rattle.table.specs.declared.check.Knots.{Knots}
use Rattle.table.specs.declared.method.ConvexMonotone.{ConvexMonotone}
use Rattle.table.specs.Method.{safely}
use Rattle.table.specs.declared.ends.Seam.{Seam}
use Rattle.table.specs.Table.{at}

unfoldable pub all_finite : List Float → Bool
unfolding all_below
all_finite xs = all_below (length xs) (λ i. finite (at xs i))

-- each knot above the one before
unfoldable pub rising : List Float → Bool
unfolding all_below
rising xs = all_below (length xs - 1) (λ i. lt (at xs i) (at xs (i + 1)))

abbrev pub knots_of : List Float → Knots
knots_of xs = record { finite = all_finite xs; rising = rising xs }

-- in [0, 1]; a NaN is not, and -0.0 is
abbrev pub in_unit : Float → Bool
in_unit x = le zero x && le x one

abbrev pub seam_too_long : Option Seam → ℕ → Bool
seam_too_long None n = false
seam_too_long (Some s) n = leb n (s.count + 1)

abbrev pub no_room : ℕ → ℕ → ℕ → ℕ → Bool
no_room n nodes tags slots = ltb nodes n || (ltb tags (n - 1) || ltb slots (slot_count * (n - 1)))

-- 1 to 7
abbrev pub table_tests : List Float → List Float → ConvexMonotone → List Test
table_tests x y method =
    (not (eqb (length x) (length y)) ⇒ LengthsDiffer)
    ∷ (not (in_unit method.monotonicity) ⇒ MonotonicityOutside)
    ∷ (not (in_unit method.quadraticity) ⇒ QuadraticityOutside)
    ∷ (ltb (length x) 2 ⇒ TooFewPoints)
    ∷ (not (all_finite x) ⇒ KnotNotFinite)
    ∷ (not (all_finite y) ⇒ AverageNotFinite)
    ∷ (not (rising x) ⇒ KnotsNotRising)
    ∷ []

-- 10 and 11
abbrev pub room_tests : ℕ → ℕ → ℕ → ℕ → List Test
room_tests n nodes tags slots = (ltb 4096 n ⇒ TooManyPoints) ∷ (no_room n nodes tags slots ⇒ BufferTooShort) ∷ []

-- 8
abbrev pub seam_test : Option Seam → ℕ → Test
seam_test s n = seam_too_long s n ⇒ SeamTooLong

-- each average that is read is at or above 0; the first is not read
unfoldable pub from_zero : List Float → Bool
unfolding all_below
from_zero ys = all_below (length ys - 1) (λ i. le zero (at ys (i + 1)))

-- 29, our own: in the safe mode an average is below 0
abbrev pub average_below : List Float → ConvexMonotone → Bool
average_below y method = safely method && not (from_zero y)

abbrev pub sign_test : List Float → ConvexMonotone → Test
sign_test y method = average_below y method ⇒ AverageBelowZero

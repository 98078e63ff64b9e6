-- 02, K2: the Gregorian calendar. Months count from January 2000 as 0, and days from 1 January 2000 as 0.
use Rattle.std.specs.Prelude.{ℕ, zero, suc, ◌+◌, ◌-◌, ◌*◌, ◌/◌, ◌%◌, Bool, not, ◌&&◌, ◌||◌, cond, List, [], ◌∷◌, eqb, ltb, get_or}

abbrev pub year_of : ℕ → ℕ
year_of m = 2000 + m / 12

abbrev pub divides : ℕ → ℕ → Bool
divides k y = eqb (y % k) 0

abbrev pub is_leap : ℕ → Bool
is_leap y = divides 4 y && (not (divides 100 y) || divides 400 y)

-- the days of a year's months
abbrev pub lengths : Bool → List ℕ
lengths leap = 31 ∷ cond leap 29 28 ∷ 31 ∷ 30 ∷ 31 ∷ 30 ∷ 31 ∷ 31 ∷ 30 ∷ 31 ∷ 30 ∷ 31 ∷ []

abbrev pub length_at : ℕ → ℕ
length_at m = get_or (lengths (is_leap (year_of m))) (m % 12) 0

-- the day on which a month starts, by the lengths of the months before it
unfoldable pub start_at : ℕ → ℕ
start_at zero = 0
start_at (suc m) = start_at m + length_at m

-- f i, f (i + 1) and so on, n of them
unfoldable pub listed : {A : Type 0} → (ℕ → A) → ℕ → ℕ → List A
listed f i zero = []
listed f i (suc n) = f i ∷ listed f (suc i) n

-- the table: January 2000 to January 2100
abbrev pub month_starts : List ℕ
month_starts = listed start_at 0 1201

-- The same day counted anew: 365 days to each year before, those of an ordinary year's months before, and the leap days. Up to a January or a
-- February only the years before have had theirs.
abbrev pub leap_years_up_to : ℕ → ℕ
leap_years_up_to y = y / 4 - y / 100 + y / 400

abbrev pub days_before : List ℕ
days_before = 0 ∷ 31 ∷ 59 ∷ 90 ∷ 120 ∷ 151 ∷ 181 ∷ 212 ∷ 243 ∷ 273 ∷ 304 ∷ 334 ∷ []

unfoldable pub day_number : ℕ → ℕ
day_number m =
    365 * (m / 12) + get_or days_before (m % 12) 0
    + (leap_years_up_to (cond (ltb (m % 12) 2) (year_of m - 1) (year_of m)) - leap_years_up_to 1999)

-- 01, Sheets. A table of n points that is cut at inner knots: its sheets are numbered from 0 to the number of cuts, and meet at the cuts.
use Rattle.std.specs.Prelude.{ℕ, ◌-◌, Bool, cond, ◌&&◌, List, eqb, ltb, length, get_or}
use Rattle.numbers.specs.Every.{all_below}

-- the knot where sheet j starts
abbrev pub start_of : List ℕ → ℕ → ℕ
start_of cuts j = cond (eqb j 0) 0 (get_or cuts (j - 1) 0)

-- the knot where it ends: a cut, or the last knot
abbrev pub finish_of : ℕ → List ℕ → ℕ → ℕ
finish_of n cuts j = cond (eqb j (length cuts)) (n - 1) (get_or cuts j 0)

-- a cut above the one before and below the last knot of n
abbrev pub cut_fits : List ℕ → ℕ → ℕ → Bool
cut_fits cuts n j = ltb (start_of cuts j) (get_or cuts j 0) && ltb (get_or cuts j 0) (n - 1)

unfoldable pub cuts_fit : List ℕ → ℕ → Bool
unfolding all_below
cuts_fit cuts n = all_below (length cuts) (cut_fits cuts n)

-- The rule of month lengths over a whole table: one test that antt computes, one entry after the other, and the law that turns it into the rule
-- at each entry.
use Prim.Native.Nat.{ℕ, zero, suc, ◌+◌, ◌<◌}
use native.Mathlib.Nat.{add-zero, zero-add, add-suc, suc-add, le_of_suc-le-suc, not-suc-le-zero}
use mathlib.Core.Path.{◌≡◌, sym, ap, subst, ◌∙◌}
use mathlib.Core.Bool.{Bool, true, false, ◌&&◌}
use mathlib.Core.List.{List, [], ◌∷◌}
use lib.Dec.{T, eqb, eqb→eq}
use lib.ListN.{length, get_or}
use lib.Seq.{ext_get_or}
use Rattle.months.specs.Calendar.{length_at, start_at, month_starts}
use Rattle.months.proofs.Listed.{length_listed, listed_at}

-- the list has the starts of the months from m on, the first of them on this day
abbrev pub follows : ℕ → ℕ → List ℕ → Bool
follows m day [] = true
follows m day (x ∷ xs) = eqb x day && follows (suc m) (day + length_at m) xs

and_both : (a b : Bool) → T (a && b) → T a × T b
and_both true b t = (tt, t)
and_both false b t = absurd t

from : (xs : List ℕ) (m : ℕ) → T (follows m (start_at m) xs) → (k : ℕ) → k < length xs → get_or xs k 0 ≡ start_at (m + k)
unfolding start_at
from [] m t k h = absurd (not-suc-le-zero h)
from (x ∷ xs) m t zero h = eqb→eq x (start_at m) (and_both (eqb x (start_at m)) (follows (suc m) (start_at m + length_at m) xs) t).0 ∙ ap start_at (sym (add-zero m))
from (x ∷ xs) m t (suc k) h =
    from xs (suc m) (and_both (eqb x (start_at m)) (follows (suc m) (start_at m + length_at m) xs) t).1 k (le_of_suc-le-suc h)
    ∙ ap start_at (suc-add m k ∙ sym (add-suc m k))

pub at_each : (xs : List ℕ) (k : ℕ) → follows 0 0 xs ≡ true → k < length xs → get_or xs k 0 ≡ start_at k
unfolding start_at
at_each xs k e h = from xs 0 (subst T (sym e) tt) k h ∙ ap start_at (zero-add k)

-- a list of all months' starts is the table
pub is_table : (xs : List ℕ) → follows 0 0 xs ≡ true → length xs ≡ 1201 → xs ≡ month_starts
is_table xs e n =
    ext_get_or 0 xs month_starts (n ∙ sym (length_listed start_at 0 1201))
    (λ k h. at_each xs k e h ∙ sym (listed_at start_at 1201 k 0 (subst (λ (m : ℕ). k < m) n h)))

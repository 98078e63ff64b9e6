-- The calendar by the lengths of its months is the calendar by its years: counted at each of the 1,201 months by one test that antt computes.
use Prim.Native.Nat.{ℕ, suc, ◌≤◌, suc-le-suc}
use mathlib.Core.Bool.{true}
use mathlib.Core.Path.{◌≡◌, refl, sym, subst, ◌∙◌}
use Rattle.months.specs.Calendar.{start_at, day_number, listed}
use Rattle.months.proofs.Lengths.{follows, at_each}
use Rattle.months.proofs.Listed.{length_listed, listed_at}

follow : follows 0 0 (listed day_number 0 1201) ≡ true
unfolding day_number listed
follow = refl

pub by_years : (m : ℕ) → m ≤ 1200 → start_at m ≡ day_number m
by_years m h =
    let below = subst (λ (n : ℕ). suc m ≤ n) (sym (length_listed day_number 0 1201)) (suc-le-suc h) in
    sym (at_each (listed day_number 0 1201) m follow below) ∙ listed_at day_number 1201 m 0 (suc-le-suc h)

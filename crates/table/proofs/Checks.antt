-- Small facts about the tests of a table.
use Prim.Native.Nat.{ℕ, ◌+◌, ◌-◌, ◌≤◌, ◌<◌, zero-le}
use native.Mathlib.Omega.{arith}
use mathlib.Core.Bool.{true, false}
use mathlib.Core.Logic.{⊎_elim}
use mathlib.Core.List.{List}
use mathlib.Core.Path.{◌≡◌, sym, ◌∙◌}
use lib.Dec.{leb, ltb}
use borrow.Author.Tests.{le-leb, lt-leb, le-ltb}
use lib.Ieee.{Float}
use lib.ListN.{length}
use Rattle.numbers.proofs.Every.{all_none}
use Rattle.numbers.proofs.Ways.{lt_or_le}
use Rattle.table.specs.Check.{all_finite, rising, knots_of}

-- no knot, so none that is bad and no pair that falls
pub no_knots : (xs : List Float) → length xs ≡ 0 → knots_of xs ≡ record { finite = true; rising = true }
unfolding rising all_finite
no_knots xs none = simp (none, all_none)

pub none_below_zero : (n : ℕ) → ltb n 0 ≡ false
none_below_zero n = le-ltb n 0 zero-le

-- n at most c + 1, computed without the sum
pub without_the_sum : (n c : ℕ) → (n ≡ 0 → ⊥) → leb (n - 1) c ≡ leb n (c + 1)
without_the_sum n c p =
    ⊎_elim
    (λ (h : c + 1 < n). lt-leb (n - 1) c (omega arith) ∙ sym (lt-leb n (c + 1) h))
    (λ (h : n ≤ c + 1). le-leb (n - 1) c (omega arith) ∙ sym (le-leb n (c + 1) h))
    (lt_or_le (c + 1) n)

pub none_at_most : {n : ℕ} (k : ℕ) → n ≡ 0 → n ≤ k
none_at_most k e = omega arith

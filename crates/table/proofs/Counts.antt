-- Counting the places below n where a test holds: the count is n exactly where the test holds at all of them.
use Prim.Native.Nat.{ℕ, zero, suc, ◌+◌, ◌≤◌, ◌<◌}
use native.Mathlib.Omega.{arith}
use native.Mathlib.Nat.{eq-or-lt_of_le, zero-add}
use native.Mathlib.Numerals.{add-one}
use mathlib.Core.Bool.{Bool, true, false, ◌&&◌}
use mathlib.Core.Logic.{⊎_elim}
use mathlib.Core.Path.{◌≡◌, refl, sym, ◌∙◌}
use mir.Val.{bool_byte}
use lib.Dec.{eqb}
use borrow.Author.Tests.{eq-eqb, ne_eqb}
use Rattle.numbers.specs.Every.{all_below}

unfoldable pub count_below : ℕ → (ℕ → Bool) → ℕ
count_below zero f = 0
count_below (suc n) f = count_below n f + bool_byte (f n)

pub count_none : (f : ℕ → Bool) → count_below 0 f ≡ 0
unfolding count_below
count_none f = refl

-- what a loop keeps: t is the test at the next place, c the count before it
pub count_next : (n : ℕ) (f : ℕ → Bool) {t : Bool} {c : ℕ} → t ≡ f n → c ≡ count_below n f → c + bool_byte t ≡ count_below (n + 1) f
unfolding count_below
count_next n f p q = rw (add-one n, p, q)

pub count_first : (f : ℕ → Bool) {t : Bool} → t ≡ f 0 → bool_byte t ≡ count_below 1 f
count_first f p = sym (zero-add _) ∙ count_next 0 f p (sym (count_none f))

-- the count stays n exactly where it was n and the next test holds
counts_on : (b : Bool) (c n : ℕ) → c ≤ n → (c + bool_byte b ≤ suc n) × (eqb (c + bool_byte b) (suc n) ≡ b && eqb c n)
counts_on true c n h = (
  omega (arith, h),
  ⊎_elim
      (λ (e : c ≡ n). eq-eqb (c + 1) (suc n) (omega (arith, e)) ∙ sym (eq-eqb c n e))
      (λ (l : c < n). ne_eqb (c + 1) (suc n) (λ (e : c + 1 ≡ suc n). absurd (omega (arith, e, l))) ∙ sym (ne_eqb c n (λ (e : c ≡ n). absurd (omega (arith, e, l)))))
      (eq-or-lt_of_le h),
)
counts_on false c n h = (omega (arith, h), ne_eqb (c + 0) (suc n) (λ (e : c + 0 ≡ suc n). absurd (omega (arith, e, h))))

count_at_most : (n : ℕ) (f : ℕ → Bool) → count_below n f ≤ n
unfolding count_below
count_at_most zero f = omega arith
count_at_most (suc n) f = (counts_on (f n) (count_below n f) n (count_at_most n f)).0

-- so the next count is at most one more
pub count_grows : (n : ℕ) (f : ℕ → Bool) (t : Bool) {c : ℕ} → c ≡ count_below n f → c + bool_byte t ≤ n + 1
count_grows n f t q = rw (q, add-one n) (counts_on t (count_below n f) n (count_at_most n f)).0

all_counted : (n : ℕ) (f : ℕ → Bool) → eqb (count_below n f) n ≡ all_below n f
unfolding count_below all_below
all_counted zero f = refl
all_counted (suc n) f = rw (← all_counted n f) (counts_on (f n) (count_below n f) n (count_at_most n f)).1

-- what a loop has found at its end
pub count_all : (n : ℕ) (f : ℕ → Bool) {c : ℕ} → c ≡ count_below n f → eqb c n ≡ all_below n f
count_all n f q = rw q (all_counted n f)

-- The laws of `all_below`: what a loop shows that leaves at the first place where the test fails, or that joins every test to those before.
use Prim.Native.Nat.{ℕ, zero, suc, ◌+◌, ◌<◌}
use native.Mathlib.Omega.{arith}
use native.Mathlib.Nat.{eq-or-lt_of_le, le_of_suc-le-suc}
use native.Mathlib.Numerals.{add-one}
use mathlib.Core.Bool.{Bool, true, false, ◌&&◌}
use mathlib.Core.Logic.{⊎_elim}
use mathlib.Core.Path.{◌≡◌, refl, ap, ◌∙◌}
use Rattle.numbers.proofs.Ways.{never}
use Rattle.numbers.specs.Every.{all_below}

and_both : {a b : Bool} → a ≡ true → b ≡ true → a && b ≡ true
and_both p q = rw (p, q)

pub and_split : (a b : Bool) → a && b ≡ true → (a ≡ true) × (b ≡ true)
and_split true b h = (refl, h)
and_split false b h = (h, never h refl)

pub and_right_false : (a : Bool) → a && false ≡ false
and_right_false true = refl
and_right_false false = refl

pub all_none : (f : ℕ → Bool) → all_below 0 f ≡ true
unfolding all_below
all_none f = refl

pub all_more : (n : ℕ) (f : ℕ → Bool) → all_below n f ≡ true → f n ≡ true → all_below (n + 1) f ≡ true
unfolding all_below
all_more n f h e = rw (add-one n, e, h)

pub all_and : (n : ℕ) (f : ℕ → Bool) (a b : Bool) → a ≡ f n → b ≡ all_below n f → (a && b) ≡ all_below (n + 1) f
unfolding all_below
all_and n f a b e h = rw (e, h, add-one n)

pub all_every : (n : ℕ) (f : ℕ → Bool) → ((k : ℕ) → k < n → f k ≡ true) → all_below n f ≡ true
unfolding all_below
all_every zero f h = refl
all_every (suc n) f h = and_both (h n (omega arith)) (all_every n f (λ k l. h k (omega arith)))

pub all_at : (n : ℕ) (f : ℕ → Bool) → all_below n f ≡ true → (k : ℕ) → k < n → f k ≡ true
unfolding all_below
all_at zero f h k l = absurd (omega arith)
all_at (suc n) f h k l =
    let p = and_split (f n) (all_below n f) h in
    ⊎_elim (λ (e : k ≡ n). ap f e ∙ p.0) (λ (g : k < n). all_at n f p.1 k g) (eq-or-lt_of_le (le_of_suc-le-suc l))

pub all_fails : (n : ℕ) (f : ℕ → Bool) (k : ℕ) → k < n → f k ≡ false → all_below n f ≡ false
unfolding all_below
all_fails zero f k l h = absurd (omega arith)
all_fails (suc n) f k l h =
    ⊎_elim
    (λ (e : k ≡ n). rw (← e, h))
    (λ (g : k < n). ap (λ (b : Bool). f n && b) (all_fails n f k g h) ∙ and_right_false (f n))
    (eq-or-lt_of_le (le_of_suc-le-suc l))

-- Our own: the safe split asks of the ends what the original's second test asks in exact arithmetic, and its touching average is the original's there.
use Prim.Native.Nat.{ℕ, suc, ◌+◌, ◌-◌, ◌*◌, ◌≤◌, ◌<◌}
use Prim.Native.Nat as nat
use native.Mathlib.Omega.{arith}
use native.Mathlib.Nat.{add-mul, mul-add, mul_assoc, mul_comm, mul_left_comm, mul-one, mul-pos, zero-mul, mul-zero, add-sub_of_le, le_of_lt}
use mathlib.Core.Bool.{Bool, true, false, not}
use mathlib.Core.Logic.{⊎_elim}
use mathlib.Core.Path.{◌≡◌, refl, ap, subst}
use borrow.Author.Tests.{le-leb, lt-leb, ltb-true}
use lib.IntN.{ℤ}
use lib.Ieee.{fin, lt, le, up, down, of_bits}
use lib.Ieee.Fits.{down_pos}
use Rattle.numbers.specs.Words.{zero}
use Rattle.numbers.proofs.Plus.{not_under}
use Rattle.numbers.proofs.Signs.{minus_is_below, plus_is_not_below}
use Rattle.numbers.proofs.Ways.{never, lt_or_le}
use Rattle.quadratic.specs.Exact.{can_touch, middle, outer}

-- ends of one sign: the discriminant is 576 times their product
alike : (f g : ℕ) → 24 * (f + g) * (24 * (f + g)) ≡ 4 * 36 * (4 * (f * f + f * g + g * g)) + 576 * (f * g)
alike f g = simp (add-mul, mul-add, mul_assoc, mul_comm, mul_left_comm) (omega arith)

-- the lower average of the two at which a parabola touches zero is a third of the ends' sum less the root of their product: it makes the discriminant 0
pub touching_exact : (f g root t : ℕ) → root * root ≡ f * g → t + root ≡ f + g → 4 * (t * t) + 4 * (f * f + f * g + g * g) ≡ 8 * ((f + g) * t)
touching_exact f g root t r e =
    let squares = simp (add-mul, mul-add, mul_comm, mul_left_comm) at (ap (λ (k : ℕ). k * k) e) in
    let products = simp (add-mul, mul_comm, mul_left_comm) at (ap (λ (k : ℕ). k * t) e) in
    simp (add-mul, mul-add, mul_comm, mul_left_comm) (omega (arith, squares, products, r))

alike_touch : (s : Bool) (f g : ℕ) → can_touch s f s g ≡ true
unfolding can_touch
alike_touch true f g = le-leb (outer true f true g) (middle true f true g * middle true f true g) (omega (arith, alike f g))
alike_touch false f g = le-leb (outer false f false g) (middle false f false g * middle false f false g) (omega (arith, alike f g))

-- ends of two signs: it is 576 times their product under 0
gap : (g k : ℕ) → g + k - g + (g - (g + k)) ≡ k
gap g k = omega arith

gap_squares : (g k : ℕ) → (g + k) * (g + k) + g * g - (g + k) * g ≡ g * g + g * k + k * k
gap_squares g k = simp (add-mul, mul-add, mul_comm) (omega arith)

larger_first : (g k : ℕ) → 0 < g →
    24 * (g + k - g + (g - (g + k))) * (24 * (g + k - g + (g - (g + k)))) < 4 * 36 * (4 * ((g + k) * (g + k) + g * g - (g + k) * g))
larger_first g k p = rw (gap g k, gap_squares g k) (simp (mul_comm, mul_left_comm) (omega (arith, mul-pos p p)))

turned : (f g : ℕ) → (f - g + (g - f) ≡ g - f + (f - g)) × (f * f + g * g - f * g ≡ g * g + f * f - g * f)
turned f g = (omega arith, rw (mul_comm g f) (omega arith))

unlike_ends : (f g : ℕ) → 0 < f → 0 < g → 24 * (f - g + (g - f)) * (24 * (f - g + (g - f))) < 4 * 36 * (4 * (f * f + g * g - f * g))
unlike_ends f g p q =
    ⊎_elim
    (λ (l : f < g). rw ((turned f g).0, (turned f g).1) (subst (λ (k : ℕ). 24 * (k - f + (f - k)) * (24 * (k - f + (f - k))) < 4 * 36 * (4 * (k * k + f * f - k * f))) (add-sub_of_le (le_of_lt l)) (larger_first f (g - f) p)))
    (λ (l : g ≤ f). subst (λ (k : ℕ). 24 * (k - g + (g - k)) * (24 * (k - g + (g - k))) < 4 * 36 * (4 * (k * k + g * g - k * g))) (add-sub_of_le l) (larger_first g (f - g) q))
    (lt_or_le f g)

unlike_touch : (s : Bool) (f g : ℕ) → 0 < f → 0 < g → can_touch s f (not s) g ≡ false
unfolding can_touch
unlike_touch true f g p q = lt-leb (outer true f false g) (middle true f false g * middle true f false g) (unlike_ends f g p q)
unlike_touch false f g p q = lt-leb (outer false f true g) (middle false f true g * middle false f true g) (unlike_ends f g p q)

-- an end at 0: it is 0
lone_end : (k g c : ℕ) → k ≡ g → c ≡ g * g → 4 * 36 * (4 * c) ≤ 24 * k * (24 * k)
lone_end k g c p q = rw (p, q) (simp (mul_assoc, mul_left_comm) (omega arith))

zero_first : (s t : Bool) (g : ℕ) → can_touch s 0 t g ≡ true
unfolding can_touch
zero_first true true g = alike_touch true 0 g
zero_first false false g = alike_touch false 0 g
zero_first true false g = le-leb (outer true 0 false g) (middle true 0 false g * middle true 0 false g) (lone_end (0 - g + (g - 0)) g (0 * 0 + g * g - 0 * g) (omega arith) (simp zero-mul (omega arith)))
zero_first false true g = le-leb (outer false 0 true g) (middle false 0 true g * middle false 0 true g) (lone_end (0 - g + (g - 0)) g (0 * 0 + g * g - 0 * g) (omega arith) (simp zero-mul (omega arith)))

zero_second : (s t : Bool) (f : ℕ) → can_touch s f t 0 ≡ true
unfolding can_touch
zero_second true true f = alike_touch true f 0
zero_second false false f = alike_touch false f 0
zero_second true false f = le-leb (outer true f false 0) (middle true f false 0 * middle true f false 0) (lone_end (f - 0 + (0 - f)) f (f * f + 0 * 0 - f * 0) (omega arith) (simp (zero-mul, mul-zero) (omega arith)))
zero_second false true f = le-leb (outer false f true 0) (middle false f true 0 * middle false f true 0) (lone_end (f - 0 + (0 - f)) f (f * f + 0 * 0 - f * 0) (omega arith) (simp (zero-mul, mul-zero) (omega arith)))

-- ---- Of finite numbers: their sizes over one divisor.
-- at or above 0 with a minus sign is a zero; above 0, and below it
no_size_lem : (m : ℕ) (e : ℤ) → le zero (fin true m e) ≡ true → m ≡ 0
no_size_lem nat.zero e h = refl
no_size_lem (suc m) e h = never (minus_is_below m e) (not_under (fin true (suc m) e) h)

above : (s : Bool) (m : ℕ) (e : ℤ) → lt zero (fin s m e) ≡ true → (s ≡ false) × (0 < m * up e)
unfolding lt of_bits
above true m e h = never h refl
above false m e h = let l = ltb-true (0 * 1 * down e) (m * up e * 1) h in (refl, omega (arith, l))

under : (s : Bool) (m : ℕ) (e : ℤ) → lt (fin s m e) zero ≡ true → (s ≡ true) × (0 < m * up e)
unfolding lt of_bits
under true m e h = let l = ltb-true 0 (m * up e * 1 + 0 * 1 * down e) h in (refl, omega (arith, simp (zero-mul, mul-one) at l))
under false m e h = never h (plus_is_not_below m e)

module _ (m : ℕ) (e : ℤ) (n : ℕ) (d : ℤ) where
  abbrev first : ℕ
  first = m * up e * down d

  abbrev second : ℕ
  second = n * up d * down e

  -- ends at or above 0 can touch it
  pub exact_passes : (s t : Bool) → le zero (fin s m e) ≡ true → le zero (fin t n d) ≡ true → can_touch s first t second ≡ true
  exact_passes false false p q = alike_touch false first second
  exact_passes true true p q = alike_touch true first second
  exact_passes true false p q = rw (no_size_lem m e p, zero-mul (up e), zero-mul (down d)) (zero_first true false second)
  exact_passes false true p q = rw (no_size_lem n d q, zero-mul (up d), zero-mul (down e)) (zero_second false true first)

  -- and ends on both sides of it cannot
  pub exact_fails : (s t : Bool) → lt (fin s m e) zero ≡ true → lt zero (fin t n d) ≡ true → can_touch s first t second ≡ false
  exact_fails s t p q =
      let a = under s m e p in
      let b = above t n d q in
      rw (a.0, b.0) (unlike_touch true first second (mul-pos a.1 (down_pos d)) (mul-pos b.1 (down_pos e)))

  pub exact_fails_too : (s t : Bool) → lt zero (fin s m e) ≡ true → lt (fin t n d) zero ≡ true → can_touch s first t second ≡ false
  exact_fails_too s t p q =
      let a = above s m e p in
      let b = under t n d q in
      rw (a.0, b.0) (unlike_touch false first second (mul-pos a.1 (down_pos d)) (mul-pos b.1 (down_pos e)))

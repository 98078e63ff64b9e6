-- A sum does not fall as what is added rises, nor does a difference rise with what is taken away, and the difference of two rising numbers is not below 0.
-- A finite sum has a finite first part.
use Prim.Native.Nat.{ℕ, ◌+◌, ◌-◌, ◌*◌, ◌≤◌, ◌<◌}
use native.Mathlib.Omega.{arith}
use native.Mathlib.Nat.{mul-pos, mul_assoc, mul_comm, mul_left_comm, mul-one, zero-mul, add-zero, zero-add, add-mul, mul-le-mul_right, le_refl}
use mathlib.Core.Bool.{Bool, true, false, not}
use mathlib.Core.Logic.{⊎_elim}
use mathlib.Core.Path.{◌≡◌, refl}
use borrow.Author.Tests.{lt-ltb, le-ltb}
use lib.IntN.{ℤ, pos}
use lib.Dec.{T, lit<}
use lib.Ieee.{Float, nan, inf, fin, binary64, neg, sum, add, sub, lt, le, up, down, of_bits, fits}
use lib.Ieee.Fits.{down_pos}
use Rattle.numbers.specs.Words.{◌⊕◌, ◌⊖◌, zero, finite}
use Rattle.numbers.proofs.Ways.{never, lt_or_le}
use Rattle.numbers.proofs.AtMost.{plus, less, AtMost, le_at_most, le_on, le_neg, le_of_below, from_lowest, to_highest}
use Rattle.numbers.proofs.Rounding.{zeros, Rounded, rounds, rounded_mono, zero_rounded, own_below, own_above}

-- ±a / c + ±b / d, over the one divisor c * d
sum_rounded : (s t : Bool) (a c b d : ℕ) → Rounded (sum binary64 s (a * d) t (b * c) (c * d)) (plus s a * d + plus t b * c) (less s a * d + less t b * c) (c * d)
unfolding sum
sum_rounded true true a c b d = rounds true (a * d + b * c) _ _ (c * d) refl (omega arith)
sum_rounded false false a c b d = rounds false (a * d + b * c) _ _ (c * d) refl (omega arith)
sum_rounded false true a c b d =
    ⊎_elim
    (λ (l : a * d < b * c). rounds true (b * c - a * d) _ _ (c * d) (simp (lt-ltb (a * d) (b * c) l)) (omega arith))
    (λ (l : b * c ≤ a * d). rounds false (a * d - b * c) _ _ (c * d) (simp (le-ltb (a * d) (b * c) l)) (omega arith))
    (lt_or_le (a * d) (b * c))
sum_rounded true false a c b d =
    ⊎_elim
    (λ (l : a * d < b * c). rounds false (b * c - a * d) _ _ (c * d) (simp (lt-ltb (a * d) (b * c) l)) (omega arith))
    (λ (l : b * c ≤ a * d).
    ⊎_elim
    (λ (g : b * c < a * d). rounds true (a * d - b * c) _ _ (c * d) (simp (le-ltb (a * d) (b * c) l, lt-ltb (b * c) (a * d) g)) (omega arith))
    (λ (g : a * d ≤ b * c). rounds false (a * d - b * c) _ _ (c * d) (simp (le-ltb (a * d) (b * c) l, le-ltb (b * c) (a * d) g)) (omega arith))
    (lt_or_le (b * c) (a * d)))
    (lt_or_le (a * d) (b * c))

-- the sum of two finite numbers is such a rounding, so it is no NaN
pub plus_rounded : (s : Bool) (m : ℕ) (e : ℤ) (t : Bool) (n : ℕ) (d : ℤ) → Rounded (fin s m e ⊕ fin t n d)
    (plus s (m * up e) * down d + plus t (n * up d) * down e) (less s (m * up e) * down d + less t (n * up d) * down e) (down e * down d)
unfolding add
plus_rounded s m e t n d = sum_rounded s t (m * up e) (down e) (n * up d) (down d)

plus_finite : (s : Bool) (m : ℕ) (e : ℤ) (t : Bool) (n : ℕ) (d : ℤ) → le (fin s m e ⊕ fin t n d) (fin s m e ⊕ fin t n d) ≡ true
plus_finite s m e t n d = let r = plus_rounded s m e t n d in let p = mul-pos (down_pos e) (down_pos d) in rounded_mono r r p p (le_refl _)

-- a / e + b / d and a / e + c / g, each of them with a part above 0 and one under 0
added : (a a' e b b' d c c' g : ℕ) → b * g + c' * d ≤ c * d + b' * g
    → (a * d + b * e) * (e * g) + (a' * g + c' * e) * (e * d) ≤ (a * g + c * e) * (e * d) + (a' * d + b' * e) * (e * g)
added a a' e b b' d c c' g h =
    let more = simp (add-mul, mul_assoc, mul_comm, mul_left_comm) at (mul-le-mul_right (e * e) h) in
    simp (add-mul, mul_assoc, mul_comm, mul_left_comm) (omega (arith, more))

-- of two numbers the larger makes a sum that is no smaller, and leaves a difference that is no larger
pub sum_mono : (x y z : Float) → finite x ≡ true → le y z ≡ true → le (x ⊕ y) (x ⊕ z) ≡ true
unfolding finite le add
sum_mono nan y z f h = never f refl
sum_mono (inf s) y z f h = never f refl
sum_mono (fin s m e) nan z f h = never h refl
sum_mono (fin s m e) (inf true) nan f h = never h refl
sum_mono (fin s m e) (inf true) (inf true) f h = refl
sum_mono (fin s m e) (inf true) (inf false) f h = refl
sum_mono (fin s m e) (inf true) (fin u k g) f h = from_lowest (fin s m e ⊕ fin u k g) (plus_finite s m e u k g)
sum_mono (fin s m e) (inf false) nan f h = never h refl
sum_mono (fin s m e) (inf false) (inf true) f h = never h refl
sum_mono (fin s m e) (inf false) (inf false) f h = refl
sum_mono (fin s m e) (inf false) (fin u k g) f h = never h refl
sum_mono (fin s m e) (fin t n d) nan f h = never h refl
sum_mono (fin s m e) (fin t n d) (inf true) f h = never h refl
sum_mono (fin s m e) (fin t n d) (inf false) f h = to_highest (fin s m e ⊕ fin t n d) (plus_finite s m e t n d)
sum_mono (fin s m e) (fin t n d) (fin u k g) f h =
    rounded_mono (plus_rounded s m e t n d) (plus_rounded s m e u k g) (mul-pos (down_pos e) (down_pos d)) (mul-pos (down_pos e) (down_pos g))
    (added (plus s (m * up e)) (less s (m * up e)) (down e) (plus t (n * up d)) (less t (n * up d)) (down d) (plus u (k * up g)) (less u (k * up g)) (down g)
    (le_at_most t n d u k g h))

pub difference_anti : (x y z : Float) → finite x ≡ true → le y z ≡ true → le (x ⊖ z) (x ⊖ y) ≡ true
unfolding sub
difference_anti x y z f h = sum_mono x (neg z) (neg y) f (le_neg y z h)

-- a finite number that fits stays where it is when 0 is added
pub stays : (x : Float) → T (fits binary64 x) → finite x ≡ true → (le x (x ⊕ zero) ≡ true) × (le (x ⊕ zero) x ≡ true)
unfolding finite of_bits
stays nan h f = never f refl
stays (inf s) h f = never f refl
stays (fin s m e) h f =
    let r = plus_rounded s m e false 0 (pos 0) in
    let p = mul-pos (down_pos e) (lit< tt) in
    (own_below s m e h r p (simp (mul-one, zero-mul, add-zero) (le_refl _)), own_above s m e h r p (simp (mul-one, zero-mul, add-zero) (le_refl _)))

-- adding what is not below 0 does not shrink a number
pub sum_not_below : (x y : Float) → T (fits binary64 x) → finite x ≡ true → le zero y ≡ true → le x (x ⊕ y) ≡ true
sum_not_below x y h f l = le_on x (x ⊕ zero) (x ⊕ y) (stays x h f).0 (sum_mono x zero y f l)

-- and taking it away does not make the number grow
pub difference_not_above : (x y : Float) → T (fits binary64 x) → finite x ≡ true → le zero y ≡ true → le (x ⊖ y) x ≡ true
unfolding sub neg of_bits
difference_not_above x y h f l =
    let minus : le (neg y) zero ≡ true = le_on (neg y) (neg zero) zero (le_neg zero y l) (zeros true false) in
    le_on (x ⊕ neg y) (x ⊕ zero) x (sum_mono x (neg y) zero f minus) (stays x h f).1

-- ±b / d less ±a / c has no more under 0 than above it where ±a / c is the smaller
turned : (s t : Bool) (a c b d : ℕ) → AtMost s a c t b d → less t b * c + less (not s) a * d ≤ plus t b * c + plus (not s) a * d
turned true t a c b d h = omega arith
turned false t a c b d h = omega arith

-- the length between rising knots is not below 0
pub length_from_zero : (x y : Float) → finite x ≡ true → finite y ≡ true → lt x y ≡ true → le zero (y ⊖ x) ≡ true
unfolding finite sub neg
length_from_zero nan y f g h = never f refl
length_from_zero (inf s) y f g h = never f refl
length_from_zero (fin s m e) nan f g h = never g refl
length_from_zero (fin s m e) (inf t) f g h = never g refl
length_from_zero (fin s m e) (fin t n d) f g h =
    rounded_mono zero_rounded (plus_rounded t n d (not s) m e) (lit< tt) (mul-pos (down_pos d) (down_pos e))
    (simp (mul-one, zero-mul, zero-add, add-zero) (turned s t (m * up e) (down e) (n * up d) (down d) (le_at_most s m e t n d (le_of_below (fin s m e) (fin t n d) h))))

-- what is no finite number stays so, whatever is added
pub sum_finite_left : (x y : Float) → finite (x ⊕ y) ≡ true → finite x ≡ true
unfolding finite add
sum_finite_left nan y h = h
sum_finite_left (inf s) nan h = h
sum_finite_left (inf true) (inf true) h = h
sum_finite_left (inf true) (inf false) h = h
sum_finite_left (inf false) (inf true) h = h
sum_finite_left (inf false) (inf false) h = h
sum_finite_left (inf s) (fin t n d) h = h
sum_finite_left (fin s m e) y h = refl

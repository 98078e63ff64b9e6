-- The order `<=` of numbers: it is one of sums of natural numbers, it goes on, and it turns round with the signs.
use Prim.Native.Nat.{ℕ, ◌+◌, ◌*◌, ◌≤◌, ◌<◌}
use native.Mathlib.Omega.{arith}
use native.Mathlib.Nat.{le_of_mul-le-mul_right, mul-le-mul_right, add-mul, mul_assoc, mul_comm, mul_left_comm, zero-mul}
use mathlib.Core.Bool.{Bool, true, false, not, ◌&&◌, ◌||◌}
use mathlib.Core.Logic.{⊎_elim}
use mathlib.Core.Path.{◌≡◌, refl, sym}
use borrow.Author.Tests.{ltb-true, lt-ltb, le-ltb, eqb-true, eq-eqb}
use lib.IntN.{ℤ}
use lib.Dec.{ltb, eqb}
use lib.Ieee.{Float, nan, inf, fin, lt, le, neg, below, level, up, down}
use lib.Ieee.Fits.{down_pos}
use Rattle.numbers.proofs.Ways.{never, lt_or_le, or_some}
use Rattle.numbers.proofs.Every.{and_split}

-- a size with a sign is its part above 0 less its part under 0: one of the two is the size, and the other is 0
abbrev pub plus : Bool → ℕ → ℕ
plus true a = 0
plus false a = a

abbrev pub less : Bool → ℕ → ℕ
less true a = a
less false a = 0

-- ±a / c ≤ ±b / d
abbrev pub AtMost : Bool → ℕ → ℕ → Bool → ℕ → ℕ → Type 0
AtMost s a c t b d = plus s a * d + less t b * c ≤ plus t b * c + less s a * d

pub plus_mul : (s : Bool) (a k : ℕ) → plus s (a * k) ≡ plus s a * k
plus_mul true a k = sym (zero-mul k)
plus_mul false a k = refl

pub less_mul : (s : Bool) (a k : ℕ) → less s (a * k) ≡ less s a * k
less_mul true a k = refl
less_mul false a k = sym (zero-mul k)

-- a test passes by one of its halves
reads : (a b : ℕ) (e : Bool) → (e ≡ true → a ≡ b) → ltb a b || (e && true) ≡ true → a ≤ b
reads a b e f h = ⊎_elim (λ p. omega (arith, ltb-true a b p)) (λ p. omega (arith, f (and_split e true p).0)) (or_some (ltb a b) (e && true) h)

-- what the test `<=` says of two sizes with signs, and what makes it pass
tested : (s t : Bool) (a b : ℕ) → below s a t b || level s a t b ≡ true → plus s a + less t b ≤ plus t b + less s a
tested false false a b h = omega (arith, reads a b (eqb a b) (eqb-true a b) h)
tested false true a b h = let p = and_split (eqb a b) (eqb a 0) h in omega (arith, eqb-true a b p.0, eqb-true a 0 p.1)
tested true false a b h = omega arith
tested true true a b h = omega (arith, reads b a (eqb a b) (λ p. sym (eqb-true a b p)) h)

pub test : (s t : Bool) (a b : ℕ) → plus s a + less t b ≤ plus t b + less s a → below s a t b || level s a t b ≡ true
test false false a b h = ⊎_elim (λ l. simp (lt-ltb a b l)) (λ l. simp (le-ltb a b l, eq-eqb a b (omega arith))) (lt_or_le a b)
test false true a b h = simp (eq-eqb a b (omega arith), eq-eqb a 0 (omega arith))
test true false a b h = ⊎_elim (λ l. simp (lt-ltb 0 (a + b) l)) (λ l. simp (le-ltb 0 (a + b) l, eq-eqb a b (omega arith), eq-eqb a 0 (omega arith))) (lt_or_le 0 (a + b))
test true true a b h = ⊎_elim (λ l. simp (lt-ltb b a l)) (λ l. simp (le-ltb b a l, eq-eqb a b (omega arith))) (lt_or_le b a)

-- and of two fractions, by the products across
crossed : (s t : Bool) (a c b d : ℕ) → below s (a * d) t (b * c) || level s (a * d) t (b * c) ≡ true → AtMost s a c t b d
crossed s t a c b d h = simp (plus_mul, less_mul) at (tested s t (a * d) (b * c) h)

cross : (s t : Bool) (a c b d : ℕ) → AtMost s a c t b d → below s (a * d) t (b * c) || level s (a * d) t (b * c) ≡ true
cross s t a c b d h = test s t (a * d) (b * c) (simp (plus_mul, less_mul) h)

-- so `<=` of two finite numbers is the order of the fractions that they are
pub le_at_most : (s : Bool) (m : ℕ) (e : ℤ) (t : Bool) (n : ℕ) (d : ℤ) → le (fin s m e) (fin t n d) ≡ true → AtMost s (m * up e) (down e) t (n * up d) (down d)
unfolding le
le_at_most s m e t n d h = crossed s t (m * up e) (down e) (n * up d) (down d) h

pub at_most_le : (s : Bool) (m : ℕ) (e : ℤ) (t : Bool) (n : ℕ) (d : ℤ) → AtMost s (m * up e) (down e) t (n * up d) (down d) → le (fin s m e) (fin t n d) ≡ true
unfolding le
at_most_le s m e t n d h = cross s t (m * up e) (down e) (n * up d) (down d) h

-- (a - a') / c, (b - b') / d and (e - e') / f: differences compared by their products across
chained : (a a' c b b' d e e' f : ℕ) → 0 < d → a * d + b' * c ≤ b * c + a' * d → b * f + e' * d ≤ e * d + b' * f → a * f + e' * c ≤ e * c + a' * f
chained a a' c b b' d e e' f D p q =
    let left = simp (add-mul, mul_assoc, mul_comm) at (mul-le-mul_right f p) in
    let right = simp (add-mul, mul_assoc, mul_comm, mul_left_comm) at (mul-le-mul_right c q) in
    let whole : (a * f + e' * c) * d ≤ (e * c + a' * f) * d = simp (add-mul, mul_assoc, mul_comm) (omega (arith, left, right)) in
    le_of_mul-le-mul_right whole D

no_nan : (x : Float) → le x nan ≡ false
unfolding le
no_nan nan = refl
no_nan (inf s) = refl
no_nan (fin s m e) = refl

-- what is at most a number that is at most a third is at most the third
pub le_on : (x y z : Float) → le x y ≡ true → le y z ≡ true → le x z ≡ true
unfolding le
le_on nan y z p q = p
le_on (inf true) y nan p q = never q (no_nan y)
le_on (inf true) y (inf true) p q = refl
le_on (inf true) y (inf false) p q = refl
le_on (inf true) y (fin u k g) p q = refl
le_on (inf false) nan z p q = never p refl
le_on (inf false) (inf true) z p q = never p refl
le_on (inf false) (inf false) z p q = q
le_on (inf false) (fin t n d) z p q = never p refl
le_on (fin s m e) nan z p q = never p refl
le_on (fin s m e) (inf true) z p q = never p refl
le_on (fin s m e) (inf false) nan p q = q
le_on (fin s m e) (inf false) (inf true) p q = q
le_on (fin s m e) (inf false) (inf false) p q = refl
le_on (fin s m e) (inf false) (fin u k g) p q = never q refl
le_on (fin s m e) (fin t n d) nan p q = q
le_on (fin s m e) (fin t n d) (inf u) p q = q
le_on (fin s m e) (fin t n d) (fin u k g) p q =
    at_most_le s m e u k g
    (chained (plus s (m * up e)) (less s (m * up e)) (down e) (plus t (n * up d)) (less t (n * up d)) (down d) (plus u (k * up g)) (less u (k * up g)) (down g)
    (down_pos d)
    (le_at_most s m e t n d p) (le_at_most t n d u k g q))

-- where both signs turn round, so does the order
at_most_neg : (s t : Bool) (a c b d : ℕ) → AtMost s a c t b d → AtMost (not t) b d (not s) a c
at_most_neg true true a c b d h = omega arith
at_most_neg true false a c b d h = omega arith
at_most_neg false true a c b d h = omega arith
at_most_neg false false a c b d h = omega arith

pub le_neg : (x y : Float) → le x y ≡ true → le (neg y) (neg x) ≡ true
unfolding le neg
le_neg nan y h = never h refl
le_neg (inf s) nan h = never h refl
le_neg (inf true) (inf true) h = refl
le_neg (inf true) (inf false) h = refl
le_neg (inf false) (inf true) h = h
le_neg (inf false) (inf false) h = refl
le_neg (inf true) (fin t n d) h = refl
le_neg (inf false) (fin t n d) h = h
le_neg (fin s m e) nan h = never h refl
le_neg (fin s m e) (inf t) h = h
le_neg (fin s m e) (fin t n d) h = at_most_le (not t) n d (not s) m e (at_most_neg s t (m * up e) (down e) (n * up d) (down d) (le_at_most s m e t n d h))

-- what is below is at most
pub le_of_below : (x y : Float) → lt x y ≡ true → le x y ≡ true
unfolding le
le_of_below x y h = rw h

-- every number but the NaN lies between the infinities
pub from_lowest : (x : Float) → le x x ≡ true → le (inf true) x ≡ true
unfolding le
from_lowest nan h = h
from_lowest (inf true) h = refl
from_lowest (inf false) h = refl
from_lowest (fin s m e) h = refl

pub to_highest : (x : Float) → le x x ≡ true → le x (inf false) ≡ true
unfolding le
to_highest nan h = h
to_highest (inf true) h = refl
to_highest (inf false) h = refl
to_highest (fin s m e) h = refl

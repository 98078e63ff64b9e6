-- Rounding keeps the order of fractions with signs, and a number that fits keeps its place among what is rounded.
use Prim.Native.Nat as nat
use Prim.Native.Nat.{ℕ, suc, ◌+◌, ◌-◌, ◌*◌, ◌%◌, ◌^◌, ◌≤◌, ◌<◌}
use native.Mathlib.Omega.{arith}
use native.Mathlib.Nat.{mul-pos, mul_assoc, mul_comm, mul_left_comm, mul-one, one-mul, zero-mul, add-mul, not-le_of_lt, eq-zero-or-pos, lt_of_mul-lt-mul_right, mul-lt-mul_of_pos_right}
use mathlib.Core.Bool.{Bool, true, false, ◌&&◌, cond}
use mathlib.Core.Logic.{⊎_elim}
use mathlib.Core.Path.{◌≡◌, refl, sym, ap, ◌∙◌}
use lib.IntN.{ℤ, pos, negsuc}
use lib.Dec.{T, eqb, ltb, leb, ltb→lt, leb→le, lit<}
use lib.Pow.{pow-add, pow_pos, pow-lt}
use lib.Ieee.{Float, nan, inf, fin, Format, binary64, prec, emax, low, odd, units, round, neg, le, up, down, of_bits, fits}
use lib.Ieee.Bits.{is_true}
use lib.Ieee.Digits.{back}
use lib.Ieee.Fits.{round_is, down_pos, and_l, and_r}
use lib.Ieee.Exact.{HasValue, round_exact}
use lib.Ieee.Order.{round_mono}
use Rattle.numbers.specs.Words.{zero}
use Rattle.numbers.proofs.Ways.{lt_or_le}
use Rattle.numbers.proofs.Finite.{round_zero}
use Rattle.numbers.proofs.AtMost.{plus, less, AtMost, at_most_le, le_on, le_neg}

-- rounding goes by the size alone, and hands on the sign
odd_neg : (d q k l : ℕ) → neg (odd d false q k l) ≡ odd d true q k l
unfolding neg odd
odd_neg d nat.zero k l = refl
odd_neg d (suc q) k l = refl

units_neg : (f : Format) (q k : ℕ) → neg (units f false q k) ≡ units f true q k
unfolding units neg
units_neg f q k = by (ltb (q * 2 ^ k) (2 ^ (low f + suc (emax f))))
  where
    by : (b : Bool) → neg (cond b (odd (suc (prec f)) false q k (low f)) (inf false)) ≡ cond b (odd (suc (prec f)) true q k (low f)) (inf true)
    by true = odd_neg (suc (prec f)) q k (low f)
    by false = refl

pub round_neg : (a b : ℕ) → neg (round binary64 false a b) ≡ round binary64 true a b
round_neg a b = ap neg (round_is binary64 false a b) ∙ units_neg binary64 _ _ ∙ sym (round_is binary64 true a b)

-- of two fractions that are not below 0, the larger rounds to a number that is no smaller; under 0 the signs turn that round
plus_mono : (a b c d : ℕ) → 0 < b → 0 < d → a * d ≤ c * b → le (round binary64 false a b) (round binary64 false c d) ≡ true
plus_mono a b c d B D h = is_true (le (round binary64 false a b) (round binary64 false c d)) (round_mono binary64 a b c d B D h)

minus_mono : (a b c d : ℕ) → 0 < b → 0 < d → c * b ≤ a * d → le (round binary64 true a b) (round binary64 true c d) ≡ true
minus_mono a b c d B D h = rw (← round_neg a b, ← round_neg c d) (le_neg (round binary64 false c d) (round binary64 false a b) (plus_mono c d a b D B h))

-- nothing rounds to a zero, and the two zeros are level
pub zeros : (s t : Bool) → le (fin s 0 (pos 0)) (fin t 0 (pos 0)) ≡ true
unfolding le
zeros true true = refl
zeros true false = refl
zeros false true = refl
zeros false false = refl

nothing_level : (s t : Bool) (b d : ℕ) → 0 < b → 0 < d → le (round binary64 s 0 b) (round binary64 t 0 d) ≡ true
nothing_level s t b d B D = rw (round_zero s b B, round_zero t d D) (zeros s t)

no_part : (a d : ℕ) → 0 < d → a * d ≤ 0 → a ≡ 0
no_part a d D h = ⊎_elim (λ z. z) (λ p. absurd (omega (arith, mul-pos p D))) (eq-zero-or-pos a)

-- any two fractions: between one under 0 and one above 0 lie the zeros
pub round_signed : (s t : Bool) (a b c d : ℕ) → 0 < b → 0 < d → AtMost s a b t c d → le (round binary64 s a b) (round binary64 t c d) ≡ true
round_signed false false a b c d B D h = plus_mono a b c d B D (omega arith)
round_signed false true a b c d B D h = rw (no_part a d D (omega arith), no_part c b B (omega arith)) (nothing_level false true b d B D)
round_signed true false a b c d B D h =
    let low_end : le (round binary64 true a b) (round binary64 true 0 1) ≡ true = minus_mono a b 0 1 B (lit< tt) (omega (arith, zero-mul b)) in
    let high_end : le (round binary64 false 0 1) (round binary64 false c d) ≡ true = plus_mono 0 1 c d (lit< tt) D (omega (arith, zero-mul d)) in
    le_on (round binary64 true a b) (round binary64 true 0 1) (round binary64 false c d) low_end
    (le_on (round binary64 true 0 1) (round binary64 false 0 1) (round binary64 false c d) (nothing_level true false 1 1 (lit< tt) (lit< tt)) high_end)
round_signed true true a b c d B D h = minus_mono a b c d B D (omega arith)

-- x is the rounding of (p - n) / c
pub record Rounded (x : Float) (p n c : ℕ) : Type 0 where
  pub sign : Bool
  pub size : ℕ
  pub is : x ≡ round binary64 sign size c
  pub worth : plus sign size + n ≡ p + less sign size

-- a - a' is worth p - n, and b - b' is worth q - m
by_worth : (a a' p n d b b' q m c : ℕ) → a + n ≡ p + a' → b + m ≡ q + b' → p * d + m * c ≤ q * c + n * d → a * d + b' * c ≤ b * c + a' * d
by_worth a a' p n d b b' q m c e g h =
    let left = simp add-mul at (ap (λ (k : ℕ). k * d) e) in
    let right = simp add-mul at (ap (λ (k : ℕ). k * c) g) in
    omega (arith, left, right)

-- the rounding of the smaller is at most that of the larger
pub rounded_mono : {x y : Float} {p n c q m d : ℕ} → Rounded x p n c → Rounded y q m d → 0 < c → 0 < d → p * d + m * c ≤ q * c + n * d → le x y ≡ true
rounded_mono {x} {y} {p} {n} {c} {q} {m} {d} r o C D h =
    rw (r.is, o.is)
    (round_signed r.sign o.sign r.size c o.size d C D
    (by_worth (plus r.sign r.size) (less r.sign r.size) p n d (plus o.sign o.size) (less o.sign o.size) q m c r.worth o.worth h))

pub rounds : {x : Float} (s : Bool) (k p n c : ℕ) → x ≡ round binary64 s k c → plus s k + n ≡ p + less s k → Rounded x p n c
rounds s k p n c e w = record { sign = s; size = k; is = e; worth = w }

pub zero_rounded : Rounded zero 0 0 1
unfolding of_bits
zero_rounded = rounds false 0 0 0 1 (sym (round_zero false 1 (lit< tt))) refl

-- 2 ^ e, for an e that fits, is a power of two of the format's smallest values
shift : (f : Format) (e : ℤ) → down e ≤ 2 ^ low f → record { by : ℕ; same : up e * 2 ^ low f ≡ 2 ^ by * down e }
shift f (pos k) h = record { by = k + low f; same = simp (pow-add, mul-one) }
shift f (negsuc k) h =
    let l : suc k ≤ low f = ⊎_elim (λ (g : low f < suc k). absurd (not-le_of_lt (pow-lt g) h)) (λ g. g) (lt_or_le (low f) (suc k)) in
    record { by = low f - suc k; same = simp one-mul (ap (λ (i : ℕ). 2 ^ i) (sym (back (low f) (suc k) l)) ∙ pow-add 2 (low f - suc k) (suc k)) }

-- so rounding leaves the value of a finite number that fits as it is
pub own_value : (f : Format) (s : Bool) (m : ℕ) (e : ℤ) → T (fits f (fin s m e)) → HasValue (round f s (m * up e) (down e)) s (m * up e) (down e)
unfolding fits
own_value f s nat.zero e h = round_exact f s (0 * up e) (down e) 0 0 (down_pos e) (pow_pos (prec f)) (pow_pos (low f + suc (emax f))) (simp zero-mul)
own_value f s (suc m) e h =
    let is_odd = eqb (suc m % 2) 1 in
    let is-short = ltb (suc m) (2 ^ prec f) in
    let is-fine = leb (down e) (2 ^ low f) in
    let is-under = ltb (suc m * up e) (2 ^ suc (emax f) * down e) in
    let most = and_l (is_odd && is-short && is-fine) is-under h in
    let p = shift f e (leb→le (down e) (2 ^ low f) (and_r (is_odd && is-short) is-fine most)) in
    let same : suc m * up e * 2 ^ low f ≡ suc m * 2 ^ p.by * down e = simp mul_assoc (ap (λ (k : ℕ). suc m * k) p.same) in
    let room : suc m * up e * 2 ^ low f < 2 ^ suc (emax f) * down e * 2 ^ low f =
    mul-lt-mul_of_pos_right (ltb→lt (suc m * up e) (2 ^ suc (emax f) * down e) (and_r (is_odd && is-short && is-fine) is-under h)) (pow_pos (low f)) in
    let top : 2 ^ suc (emax f) * down e * 2 ^ low f ≡ 2 ^ (low f + suc (emax f)) * down e = simp (pow-add, mul_assoc, mul_comm, mul_left_comm) in
    round_exact f s (suc m * up e) (down e) (suc m) p.by (down_pos e)
    (ltb→lt (suc m) (2 ^ prec f) (and_r is_odd is-short (and_l (is_odd && is-short) is-fine most)))
    (lt_of_mul-lt-mul_right (down e) (rw (← same, ← top) room)) same

-- numbers of one value are level
at_most_same : (s : Bool) (a c b d : ℕ) → a * d ≡ b * c → AtMost s a c s b d
at_most_same true a c b d h = omega arith
at_most_same false a c b d h = omega arith

same_value : (s : Bool) (m : ℕ) (e : ℤ) (y : Float) → HasValue y s (m * up e) (down e) → (le (fin s m e) y ≡ true) × (le y (fin s m e) ≡ true)
same_value s m e nan h = absurd h
same_value s m e (inf t) h = absurd h
same_value s m e (fin t n d) h = (
  at_most_le s m e t n d (rw h.0 (at_most_same s (m * up e) (down e) (n * up d) (down d) (sym h.1))),
  at_most_le t n d s m e (rw h.0 (at_most_same s (n * up d) (down d) (m * up e) (down e) h.1)),
)

-- and such a number keeps its order with y, the rounding of (p - n) / c
module _ (s : Bool) (m : ℕ) (e : ℤ) (h : T (fits binary64 (fin s m e))) {y : Float} {p n c : ℕ} (r : Rounded y p n c) (C : 0 < c) where
  abbrev a : ℕ
  a = m * up e

  own : Rounded (round binary64 s a (down e)) (plus s a) (less s a) (down e)
  own = rounds s a (plus s a) (less s a) (down e) refl refl

  pub own_below : plus s a * c + n * down e ≤ p * down e + less s a * c → le (fin s m e) y ≡ true
  own_below l = le_on (fin s m e) (round binary64 s a (down e)) y (same_value s m e _ (own_value binary64 s m e h)).0 (rounded_mono own r (down_pos e) C l)

  pub own_above : p * down e + less s a * c ≤ plus s a * c + n * down e → le y (fin s m e) ≡ true
  own_above l = le_on y (round binary64 s a (down e)) (fin s m e) (rounded_mono r own C (down_pos e) l) (same_value s m e _ (own_value binary64 s m e h)).1

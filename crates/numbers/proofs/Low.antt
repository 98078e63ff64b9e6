-- Lower bounds: numbers that are at least a power of two, and what bounds the divisor of a quotient that is.
use Prim.Native.Nat as nat
use Prim.Native.Nat.{ℕ, suc, ◌+◌, ◌*◌, ◌^◌, ◌≤◌, ◌<◌}
use native.Mathlib.Omega.{arith}
use native.Mathlib.Nat.{mul_assoc, mul_comm, mul_left_comm, mul-one, one-mul, zero-mul, add-zero, zero-add, mul-pos, mul-le-mul, mul-le-mul_left, mul-le-mul_right, le_of_mul-le-mul_right, le_refl, le_trans, pow-suc, zero-lt-suc}
use mathlib.Core.Bool.{Bool, true, false}
use mathlib.Core.Logic.{⊎_elim}
use mathlib.Core.Path.{◌≡◌, refl}
use lib.IntN.{ℤ, negsuc}
use lib.Dec.{T, ltb, leb, leb→le, le→leb, lt→ltb}
use lib.Pow.{pow-add, pow_pos, pow_mono}
use lib.Ieee.{Float, nan, inf, fin, binary64, round, mul, div, unlike, lt, le, up, down, of_bits, fits}
use lib.Ieee.Fits.{down_pos, up_pos, and_i}
use borrow.Author.Tests.{lt-ltb, ltb-true, ne_eqb}
use Rattle.numbers.specs.Words.{◌⊗◌, ◌⊘◌, zero, finite}
use Rattle.numbers.proofs.Ways.{never, lt_or_le}
use Rattle.numbers.proofs.AtMost.{plus, less, AtMost, le_at_most}
use Rattle.numbers.proofs.Rounding.{rounds, own_below, own_above}
use Rattle.numbers.proofs.Bounds.{Within, Low, low_part}

-- 2 ^ -(j + 1)
abbrev pub small : ℕ → Float
small j = fin false 1 (negsuc j)

small_fits : (j : ℕ) → j < 1074 → T (fits binary64 (small j))
unfolding fits
small_fits j h =
    let fine : 2 ^ suc j ≤ 2 ^ 1074 = pow_mono h in
    let under : 1 * 1 < 2 ^ 1024 * 2 ^ suc j = mul-le-mul {n₁ = 2} {m₁ = 1} (leb→le 2 (2 ^ 1024) tt) (pow_pos (suc j)) in
    and_i (leb (2 ^ suc j) (2 ^ 1074)) (ltb (1 * 1) (2 ^ 1024 * 2 ^ suc j)) (le→leb (2 ^ suc j) (2 ^ 1074) fine) (lt→ltb (1 * 1) (2 ^ 1024 * 2 ^ suc j) under)

pub small_low : (j : ℕ) → Low (suc j) (small j)
small_low j = record { part = 1; power = negsuc j; is = refl; size = simp mul-one (le_refl _) }

pub round_low : (j a c : ℕ) → 0 < c → j < 1074 → c ≤ 2 ^ suc j * a → le (small j) (round binary64 false a c) ≡ true
round_low j a c C J h =
    own_below false 1 (negsuc j) (small_fits j J) (rounds false a a 0 c refl refl) C (simp (one-mul, zero-mul, add-zero) (rw (mul_comm a (2 ^ suc j)) h))

-- what is at least such a number is so too
raised : (j m e n d : ℕ) → 0 < e → e ≤ 2 ^ j * m → m * d ≤ n * e → d ≤ 2 ^ j * n
raised j m e n d E h l =
    let left : d * e ≤ 2 ^ j * (m * d) = rw (mul_comm d e, ← mul_assoc (2 ^ j) m d) (mul-le-mul_right d h) in
    let right : 2 ^ j * (m * d) ≤ 2 ^ j * n * e = rw (mul_assoc (2 ^ j) n e) (mul-le-mul_left (2 ^ j) l) in
    le_of_mul-le-mul_right (le_trans left right) E

pub low_up : {j : ℕ} {x : Float} (y : Float) → Low j x → le x y ≡ true → finite y ≡ true → Low j y
unfolding finite
low_up nan l h f = never f refl
low_up (inf s) l h f = never f refl
low_up {j} {x} (fin t n d) l h f = by t (le_at_most false l.part l.power t n d (rw l.is at h))
  where
    by : (t : Bool) → AtMost false (l.part * up l.power) (down l.power) t (n * up d) (down d) → Low j (fin t n d)
    by true o = absurd (omega (arith, zero-mul (down l.power), mul-pos (mul-pos (low_part l) (up_pos l.power)) (down_pos d)))
    by false o =
        let across : l.part * up l.power * down d ≤ n * up d * down l.power = omega (arith, zero-mul (down d), zero-mul (down l.power)) in
        let size = raised j (l.part * up l.power) (down l.power) (n * up d) (down d) (down_pos l.power) l.size across in
        record { part = n; power = d; is = refl; size = size }

pub plus_above : (m : ℕ) (e : ℤ) → 0 < m → lt zero (fin false m e) ≡ true
unfolding lt of_bits
plus_above m e h = lt-ltb (0 * down e) (m * up e * 1) (simp (zero-mul, mul-one) (mul-pos h (up_pos e)))

pub low_above : {j : ℕ} {x : Float} → Low j x → lt zero x ≡ true
low_above l = rw l.is (plus_above l.part l.power (low_part l))

-- a number above 0
pub record Above (x : Float) : Type 0 where
  pub part : ℕ
  pub power : ℤ
  pub is : x ≡ fin false (suc part) power

pub above : (x : Float) → finite x ≡ true → lt zero x ≡ true → Above x
unfolding finite lt of_bits
above nan f h = never f refl
above (inf s) f h = never f refl
above (fin true m e) f h = never h refl
above (fin false nat.zero e) f h = absurd (omega (arith, ltb-true (0 * 1 * down e) (0 * up e * 1) h))
above (fin false (suc m) e) f h = record { part = m; power = e; is = refl }

pub product_low : {i j : ℕ} {x y : Float} (h : ℕ) → Low i x → Low j y → finite (x ⊗ y) ≡ true → suc h ≡ i + j → h < 1074 → Low (suc h) (x ⊗ y)
unfolding mul
product_low {i} {j} {x} {y} h p q f e H = low_up (x ⊗ y) (small_low h) least f
  where
    most : down p.power * down q.power ≤ 2 ^ suc h * (p.part * up p.power * (q.part * up q.power))
    most = rw (e, pow-add 2 i j) (le_trans (mul-le-mul p.size q.size) (simp (mul_assoc, mul_comm, mul_left_comm) (le_refl _)))

    least : le (small h) (x ⊗ y) ≡ true
    least =
        rw (p.is, q.is)
        (round_low h (p.part * up p.power * (q.part * up q.power)) (down p.power * down q.power) (mul-pos (down_pos p.power) (down_pos q.power)) H most)

-- ---- a number whose quotient is at least 2 ^ -j is divided by no more than 2 ^ (j + 1) times its own bound
-- what is at least 2 ^ -j is not at most the half of that
not_half : {j : ℕ} {x : Float} {A : Type 0} → Low j x → le x (small j) ≡ true → A
not_half {j} l h =
    let part = l.part * up l.power in
    let o = simp (one-mul, zero-mul, add-zero) at (le_at_most false l.part l.power false 1 (negsuc j) (rw l.is at h)) in
    let twice : part * 2 ^ suc j ≡ 2 ^ j * part + 2 ^ j * part = rw (mul_comm part (2 ^ suc j), pow-suc 2 j) (omega arith) in
    absurd (omega (arith, l.size, down_pos l.power))

-- a / E over b / D is at most 2 ^ -(j + 1) where b / D is more than 2 ^ (k + j + 1) and a / E at most 2 ^ k
outgrown : (j k a E b D : ℕ) → a ≤ 2 ^ k * E → 2 ^ suc (k + j) * D < b → a * D * 2 ^ suc j ≤ b * E
outgrown j k a E b D h l =
    let first : a * (D * 2 ^ suc j) ≤ 2 ^ k * E * (D * 2 ^ suc j) = mul-le-mul_right (D * 2 ^ suc j) h in
    let power : 2 ^ suc (k + j) ≡ 2 ^ k * 2 ^ suc j = rw (pow-suc 2 (k + j), pow-suc 2 j, pow-add 2 k j) (simp (mul_assoc, mul_comm, mul_left_comm)) in
    let same : 2 ^ k * E * (D * 2 ^ suc j) ≡ 2 ^ suc (k + j) * D * E = rw power (simp (mul_assoc, mul_comm, mul_left_comm)) in
    let second : 2 ^ suc (k + j) * D * E ≤ b * E = mul-le-mul_right E (omega arith) in
    rw (mul_assoc a D (2 ^ suc j)) (le_trans (rw same at first) second)

halved : (u : Bool) (a q c : ℕ) → a * q ≤ c → plus u a * q + 0 * c ≤ 1 * 1 * c + less u a * q
halved true a q c h = simp (zero-mul, zero-add) nat.zero-le
halved false a q c h = simp (zero-mul, add-zero, one-mul) h

divisor_at : (j k : ℕ) (s : Bool) (m : ℕ) (e : ℤ) (t : Float) → m * up e ≤ 2 ^ k * down e → Low j (fin s m e ⊘ t) → j < 1074 → Within (suc (k + j)) t
unfolding div
divisor_at j k s m e nan h l J = let z : ◌≡◌ {A = ℕ} 0 1 = cc l.is in absurd (omega arith)
divisor_at j k s m e (inf t) h l J = let z : l.part ≡ 0 = cc l.is in absurd (omega (arith, low_part l))
divisor_at j k s m e (fin t nat.zero d) h l J = record { sign = t; part = 0; power = d; is = refl; size = simp zero-mul nat.zero-le }
divisor_at j k s m e (fin t (suc n) d) h l J =
    ⊎_elim
    (λ (g : 2 ^ suc (k + j) * down d < suc n * up d).
    let u = unlike s t in
    let a = m * up e * down d in
    let c = suc n * up d * down e in
    let r = rounds {x = fin s m e ⊘ fin t (suc n) d} u a (plus u a) (less u a) c (rw (ne_eqb (suc n) 0 (λ q. omega arith)) refl) refl in
    not_half l
    (own_above false 1 (negsuc j) (small_fits j J) r (mul-pos (mul-pos (zero-lt-suc n) (up_pos d)) (down_pos e))
    (halved u a (2 ^ suc j) c (outgrown j k (m * up e) (down e) (suc n * up d) (down d) h g))))
    (λ (g : suc n * up d ≤ 2 ^ suc (k + j) * down d). record { sign = t; part = suc n; power = d; is = refl; size = g })
    (lt_or_le (2 ^ suc (k + j) * down d) (suc n * up d))

pub divisor_within : {j k : ℕ} {y : Float} (t : Float) → Within k y → Low j (y ⊘ t) → j < 1074 → Within (suc (k + j)) t
divisor_within {j} {k} t w l J = divisor_at j k w.sign w.part w.power t w.size (rw w.is at l) J

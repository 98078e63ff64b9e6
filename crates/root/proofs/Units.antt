-- A positive finite number in units of 2 ^ -1074: its bits, and the units that they stand for.
use Prim.Native.Nat.{ℕ, suc, ◌+◌, ◌-◌, ◌*◌, ◌/◌, ◌%◌, ◌^◌, ◌≤◌, ◌<◌}
use native.Mathlib.Omega.{arith}
use native.Mathlib.Nat.{zero-add, mul_assoc, mul-one, mul-pos, mul_right_comm, mul-div_cancel, div-one, lt_of_mul-lt-mul_right, mul-lt-mul_of_pos_right, le-div_iff_mul-le, zero-lt-suc, eq-zero-or-pos}
use mathlib.Core.Bool.{Bool, false, ◌&&◌}
use mathlib.Core.Logic.{⊎_elim}
use mathlib.Core.Path.{◌≡◌, refl, sym, ap, subst, ◌∙◌}
use lib.IntN.{ℤ, pos, negsuc}
use lib.Dec.{T, leb, ltb, eqb, leb→le, ltb→lt}
use lib.Pow.{pow_pos, pow-add, shl_lt}
use borrow.Author.Tests.{lt-ltb, le-ltb}
use lib.Ieee.{fin, binary64, up, down, size, fits, to_bits}
use lib.Ieee.Digits.{size-le, size_reaches}
use lib.Ieee.Fits.{and_l, and_r, kept-lt}
use Rattle.root.specs.Root.{in_units}
use Rattle.root.specs.Steps.{units_of_bits}
use Rattle.root.proofs.Powers.{pow_le_back}
use Rattle.numbers.proofs.Ways.{lt_or_le}

-- an exponent that is not below the smallest: m * 2 ^ e is m * 2 ^ j units, for every m
pub record Place (e : ℤ) : Type 0 where
  pub j : ℕ
  pub units : (m : ℕ) → in_units m e ≡ m * 2 ^ j
  pub value : (m : ℕ) → m * up e * 2 ^ 1074 ≡ m * 2 ^ j * down e

pub place : (e : ℤ) → down e ≤ 2 ^ 1074 → Place e
unfolding in_units
place (pos k) h =
    let v : (m : ℕ) → m * 2 ^ k * 2 ^ 1074 ≡ m * 2 ^ (k + 1074) = λ m. mul_assoc m (2 ^ k) (2 ^ 1074) ∙ ap (λ (x : ℕ). m * x) (sym (pow-add 2 k 1074)) in
    record { j = k + 1074; units = λ m. ap (λ (x : ℕ). x / 1) (v m) ∙ div-one (m * 2 ^ (k + 1074)); value = λ m. v m ∙ sym (mul-one (m * 2 ^ (k + 1074))) }
place (negsuc k) h =
    let l : suc k ≤ 1074 = pow_le_back (suc k) 1074 h in
    let i = 1074 - suc k in
    let s : i + suc k ≡ 1074 = omega arith in
    let v : (m : ℕ) → m * 1 * 2 ^ 1074 ≡ m * 2 ^ i * 2 ^ suc k =
    λ m. ap (λ (x : ℕ). x * 2 ^ 1074) (mul-one m) ∙ ap (λ (x : ℕ). m * 2 ^ x) (sym s) ∙ ap (λ (x : ℕ). m * x) (pow-add 2 i (suc k)) ∙ sym (mul_assoc m (2 ^ i) (2 ^ suc k)) in
    record { j = i; units = λ m. ap (λ (x : ℕ). x / 2 ^ suc k) (v m) ∙ mul-div_cancel (m * 2 ^ i) (pow_pos (suc k)); value = v }

-- n units as the code finds them: q of at most 53 digits, and k zeros below. Either none was dropped or q is full.
pub record Parts (n : ℕ) : Type 0 where
  pub k : ℕ
  pub q : ℕ
  pub dropped : size n - 53 ≡ k
  pub kept : n / 2 ^ k ≡ q
  pub whole : q * 2 ^ k ≡ n
  pub q_pos : 0 < q
  pub q_small : q < 2 ^ 53
  pub full : 0 < k → 2 ^ 52 ≤ q

-- a number of at most 53 digits, times a power of two
pub parts : (m j : ℕ) → 0 < m → m < 2 ^ 53 → Parts (m * 2 ^ j)
parts m j p h =
    let n = m * 2 ^ j in
    let k = size n - 53 in
    let l : size n ≤ 53 + j = size-le n (53 + j) (shl_lt 53 j h) in
    let i = j - k in
    let s : i + k ≡ j = omega arith in
    let w : m * 2 ^ i * 2 ^ k ≡ n = mul_assoc m (2 ^ i) (2 ^ k) ∙ ap (λ (x : ℕ). m * x) (sym (pow-add 2 i k) ∙ ap (λ (x : ℕ). 2 ^ x) s) in
    let c : n / 2 ^ k ≡ m * 2 ^ i = ap (λ (x : ℕ). x / 2 ^ k) (sym w) ∙ mul-div_cancel (m * 2 ^ i) (pow_pos k) in
    record {
      k = k;
      q = m * 2 ^ i;
      dropped = refl;
      kept = c;
      whole = w;
      q_pos = mul-pos p (pow_pos i);
      q_small = subst (λ (x : ℕ). x < 2 ^ 53) c (kept-lt 53 n);
      full = λ (g : 0 < k).
          let r : 52 + k < size n = omega arith in
          subst (λ (x : ℕ). 2 ^ 52 ≤ x) c ((le-div_iff_mul-le (pow_pos k)).1 (subst (λ (x : ℕ). x ≤ n) (pow-add 2 52 k) (size_reaches n (52 + k) r)));
    }

-- what fitting binary64 says of a number that is not zero
pub record Fit (m : ℕ) (e : ℤ) : Type 0 where
  pub digits : m < 2 ^ 53
  pub low : down e ≤ 2 ^ 1074
  pub high : m * up e < 2 ^ 1024 * down e

pub fit : (s : Bool) (m : ℕ) (e : ℤ) → T (fits binary64 (fin s (suc m) e)) → Fit (suc m) e
unfolding fits
fit s m e h =
    let a = eqb (suc m % 2) 1 in
    let b = ltb (suc m) (2 ^ 53) in
    let c = leb (down e) (2 ^ 1074) in
    let d = ltb (suc m * up e) (2 ^ 1024 * down e) in
    let abc = and_l (a && b && c) d h in
    record {
      digits = ltb→lt (suc m) (2 ^ 53) (and_r a b (and_l (a && b) c abc));
      low = leb→le (down e) (2 ^ 1074) (and_r (a && b) c abc);
      high = ltb→lt (suc m * up e) (2 ^ 1024 * down e) (and_r (a && b && c) d h);
    }

-- bits below 2 ^ 52 are the units themselves; above, the field is one more than the digits dropped
low_bits : (k q n : ℕ) → k ≡ 0 → q < 2 ^ 52 → q * 2 ^ k ≡ n → units_of_bits (k * 2 ^ 52 + q) ≡ n
unfolding units_of_bits
low_bits k q n z h e = simp (lt-ltb (k * 2 ^ 52 + q) (2 ^ 52) (omega arith)) (let w : q * 2 ^ 0 ≡ n = rw z at e in omega arith)

high_bits : (k q n : ℕ) → 2 ^ 52 ≤ q → q < 2 ^ 53 → q * 2 ^ k ≡ n → units_of_bits (k * 2 ^ 52 + q) ≡ n
unfolding units_of_bits
high_bits k q n l h e =
    let f : (k * 2 ^ 52 + q) / 2 ^ 52 - 1 ≡ k = omega arith in
    let r : k * 2 ^ 52 + q - k * 2 ^ 52 ≡ q = omega arith in
    simp (le-ltb (k * 2 ^ 52 + q) (2 ^ 52) (omega arith), f, r) e

-- the units of a normal number, by the parts that the code takes
pub normal_units : (b : ℕ) → 2 ^ 52 ≤ b → units_of_bits b ≡ (b % 2 ^ 52 + 2 ^ 52) * 2 ^ (b / 2 ^ 52 - 1)
unfolding units_of_bits
normal_units b h =
    let r : b - (b / 2 ^ 52 - 1) * 2 ^ 52 ≡ b % 2 ^ 52 + 2 ^ 52 = omega arith in
    simp (le-ltb b (2 ^ 52) h, r)

pub units_of_bits_lem : (n : ℕ) (t : Parts n) → units_of_bits (t.k * 2 ^ 52 + t.q) ≡ n
units_of_bits_lem n t =
    ⊎_elim
    (λ (z : t.k ≡ 0). ⊎_elim (λ (a : t.q < 2 ^ 52). low_bits t.k t.q n z a t.whole) (λ (a : 2 ^ 52 ≤ t.q). high_bits t.k t.q n a t.q_small t.whole) (lt_or_le t.q (2 ^ 52)))
    (λ (p : 0 < t.k). high_bits t.k t.q n (t.full p) t.q_small t.whole)
    (eq-zero-or-pos t.k)

-- a number that fits, m * 2 ^ e with m above 0: its parts, and how large they get
module _ (m : ℕ) (e : ℤ) (h : Fit (suc m) e) where
  units_are : in_units (suc m) e ≡ suc m * 2 ^ (place e h.low).j
  units_are = (place e h.low).units (suc m)

  pub parts_of : Parts (in_units (suc m) e)
  parts_of = subst Parts (sym units_are) (parts (suc m) (place e h.low).j (zero-lt-suc m) h.digits)

  pub units_high : in_units (suc m) e < 2 ^ 2098
  units_high =
      let p = place e h.low in
      let l : suc m * up e * 2 ^ 1074 < 2 ^ 1024 * down e * 2 ^ 1074 = mul-lt-mul_of_pos_right h.high (pow_pos 1074) in
      let g : suc m * 2 ^ p.j * down e < 2 ^ 2098 * down e = subst (λ (x : ℕ). x < 2 ^ 2098 * down e) (p.value (suc m)) (subst (λ (x : ℕ). suc m * up e * 2 ^ 1074 < x) (mul_right_comm (2 ^ 1024) (down e) (2 ^ 1074)) l) in
      subst (λ (x : ℕ). x < 2 ^ 2098) (sym units_are) (lt_of_mul-lt-mul_right (down e) g)

  pub k_high : parts_of.k ≤ 2045
  k_high = let s : size (in_units (suc m) e) ≤ 2098 = size-le (in_units (suc m) e) 2098 units_high in omega (arith, parts_of.dropped)

  pub bits_are : to_bits binary64 (fin false (suc m) e) ≡ parts_of.k * 2 ^ 52 + parts_of.q
  unfolding to_bits in_units
  bits_are =
      let t = parts_of in
      ap (λ (k : ℕ). 0 + k * 2 ^ 52 + in_units (suc m) e / 2 ^ k) t.dropped
      ∙ ap (λ (x : ℕ). 0 + t.k * 2 ^ 52 + x) t.kept
      ∙ ap (λ (x : ℕ). x + t.q) (zero-add (t.k * 2 ^ 52))

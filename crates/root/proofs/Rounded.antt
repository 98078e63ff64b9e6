-- The root is correctly rounded: theorem 1, document 01's words; theorem 2, IEEE 754's, with no tie.
use Prim.Native.Nat.{ℕ, zero, suc, ◌+◌, ◌-◌, ◌*◌, ◌/◌, ◌^◌, ◌≤◌, ◌<◌}
use native.Mathlib.Omega.{arith}
use native.Mathlib.Nat.{mul_assoc, mul_right_comm, mul-div_cancel, zero-mul, zero-div, ne_of_lt}
use mathlib.Core.Bool.{Bool, true, false}
use mathlib.Core.Logic.{⊎_elim}
use mathlib.Core.Path.{◌≡◌, refl, sym, ap, subst, ◌∙◌}
use lib.IntN.{ℤ}
use lib.Dec.{T, lit<}
use lib.Pow.{pow-add}
use lib.Ieee.{Float, nan, inf, fin, binary64, up, down, size, fits, to_bits, of_bits}
use lib.Ieee.Bits.{of_bits-to_bits, of_bits-fits}
use lib.Ieee.Exact.{HasValue, odd_sign}
use lib.Ieee.Fits.{down_pos}
use Rattle.numbers.proofs.Ways.{never}
use Rattle.root.specs.Root.{root, root_of, nearest_root, scaled, pairs, in_units}
use Rattle.root.specs.Steps.{root_bits}
use Rattle.root.specs.Nearest.{AsDocumented, units_of, YsSide, IsNearest}
use Rattle.root.proofs.Powers.{four_pow}
use Rattle.root.proofs.Units.{Fit, fit, place, parts_of, units_high}
use Rattle.root.proofs.Sides.{side_minus, side_plus}
use Rattle.root.proofs.Result.{M-range, M-exact, R-near, R-range, result}

-- m * 2 ^ e has its units for its value
pub units_value : (m : ℕ) (e : ℤ) → down e ≤ 2 ^ 1074 → m * up e * 2 ^ 1074 ≡ in_units m e * down e
units_value m e h = let p = place e h in p.value m ∙ ap (λ (x : ℕ). x * down e) (sym (p.units m))

-- a positive finite number a that fits
module _ (m : ℕ) (e : ℤ) (h : T (fits binary64 (fin false (suc m) e))) where
  fitted : Fit (suc m) e
  fitted = fit false m e h

  abbrev n : ℕ
  n = in_units (suc m) e

  abbrev M : ℕ
  M = scaled n

  abbrev R : ℕ
  R = nearest_root M

  abbrev p : ℕ
  p = pairs n

  root_value : HasValue (root (fin false (suc m) e)) false (R * 2 ^ p) (2 ^ 590)
  unfolding root root_of
  root_value = odd_sign 53 false R p 590

  root_fits : T (fits binary64 (root (fin false (suc m) e)))
  unfolding root
  root_fits = subst (λ (x : Float). T (fits binary64 x)) (result n (parts_of m e fitted) (units_high m e fitted)) (of_bits-fits binary64 (root_bits n))

  a_value : suc m * up e * 4 ^ 590 ≡ M * 4 ^ p * down e
  a_value =
      sym (mul_assoc (suc m * up e) (2 ^ 1074) (4 ^ 53))
      ∙ ap (λ (x : ℕ). x * 4 ^ 53) (units_value (suc m) e fitted.low)
      ∙ mul_right_comm n (down e) (4 ^ 53)
      ∙ ap (λ (x : ℕ). x * down e) (M-exact n (parts_of m e fitted) (units_high m e fitted))

  -- theorem 1
  pub as_documented : AsDocumented (fin false (suc m) e) (root (fin false (suc m) e))
  as_documented =
      let r = M-range n (parts_of m e fitted) (units_high m e fitted) in
      record {
        M = M;
        R = R;
        j = p;
        a_is = (refl, a_value);
        r_is = root_value;
        M-range = (r.0, omega arith);
        R-range = R-range n (parts_of m e fitted) (units_high m e fitted);
        near = R-near n (parts_of m e fitted) (units_high m e fitted);
        r_fits = root_fits;
      }

-- ---- theorem 2

-- a value in units
value_units : (x : Float) (s : Bool) (v : ℕ) → HasValue x s v (2 ^ 590) → units_of x ≡ v * 2 ^ 484
unfolding in_units
value_units nan s v h = absurd h
value_units (inf t) s v h = absurd h
value_units (fin t m e) s v h =
    ap (λ (x : ℕ). x / down e)
    (sym (mul_assoc (m * up e) (2 ^ 590) (2 ^ 484)) ∙ ap (λ (x : ℕ). x * 2 ^ 484) h.1 ∙ mul_right_comm v (down e) (2 ^ 484))
    ∙ mul-div_cancel (v * 2 ^ 484) (down_pos e)

-- the bits of a number that is not negative follow from its units, so two such numbers of as many units are one
same_units : (m : ℕ) (e : ℤ) (k : ℕ) (d : ℤ) → T (fits binary64 (fin false m e)) → T (fits binary64 (fin false k d)) → in_units m e ≡ in_units k d → fin false m e ≡ fin false k d
unfolding to_bits in_units
same_units m e k d f g h =
    sym (of_bits-to_bits binary64 (fin false m e) f)
    ∙ ap (λ (n : ℕ). of_bits binary64 (0 + (size n - 53) * 2 ^ 52 + n / 2 ^ (size n - 53))) h
    ∙ of_bits-to_bits binary64 (fin false k d) g

-- as above, of any number that has a value with the sign +
same_value : (m : ℕ) (e : ℤ) (x : Float) (v c : ℕ) → T (fits binary64 (fin false m e)) → T (fits binary64 x) → HasValue x false v c → in_units m e ≡ units_of x → fin false m e ≡ x
same_value m e nan v c f g w h = absurd w
same_value m e (inf t) v c f g w h = absurd w
same_value m e (fin true k d) v c f g w h = never (sym w.0) refl
same_value m e (fin false k d) v c f g w h = same_units m e k d f g h

-- a number that fits has at most 53 significant digits
pub record Significand (y : ℕ) : Type 0 where
  pub q : ℕ
  pub j : ℕ
  pub is : y ≡ q * 2 ^ j
  pub small : q < 2 ^ 53

significand : (s : Bool) (k : ℕ) (d : ℤ) → T (fits binary64 (fin s k d)) → Significand (in_units k d)
unfolding in_units
significand s zero d f = record { q = 0; j = 0; is = simp (zero-mul, zero-div); small = lit< tt }
significand s (suc k) d f = let g = fit s k d f in let p = place d g.low in record { q = suc k; j = p.j; is = p.units (suc k); small = g.digits }

module _ (m : ℕ) (e : ℤ) (h : T (fits binary64 (fin false (suc m) e))) where
  abbrev a : Float
  a = fin false (suc m) e

  abbrev c : ℕ
  c = p m e h + 484

  abbrev x : ℕ
  x = 2 ^ c

  -- the root's units, and the square of the true root
  r_units : units_of (root a) ≡ R m e h * x
  r_units =
      value_units (root a) false (R m e h * 2 ^ p m e h) (root_value m e h)
      ∙ mul_assoc (R m e h) (2 ^ p m e h) (2 ^ 484)
      ∙ ap (λ (y : ℕ). R m e h * y) (sym (pow-add 2 (p m e h) 484))

  square : n m e h * 2 ^ 1074 ≡ M m e h * (x * x)
  square =
      let P = p m e h in
      let t : P + P + 968 ≡ c + c = omega arith in
      sym (mul_assoc (n m e h) (4 ^ 53) (2 ^ 968))
      ∙ ap (λ (y : ℕ). y * 2 ^ 968) (M-exact (n m e h) (parts_of m e (fitted m e h)) (units_high m e (fitted m e h)))
      ∙ mul_assoc (M m e h) (4 ^ P) (2 ^ 968)
      ∙ ap (λ (y : ℕ). M m e h * y) (ap (λ (y : ℕ). y * 2 ^ 968) (four_pow P) ∙ sym (pow-add 2 (P + P) 968) ∙ ap (λ (y : ℕ). 2 ^ y) t ∙ pow-add 2 c c)

  at_units : (s : Bool) (y : ℕ) → YsSide (M m e h * (x * x)) (R m e h * x) s y → YsSide (n m e h * 2 ^ 1074) (units_of (root a)) s y
  at_units s y v = subst (λ (N : ℕ). YsSide N (units_of (root a)) s y) (sym square) (subst (λ (r : ℕ). YsSide (M m e h * (x * x)) r s y) (sym r_units) v)

  -- theorem 2: every finite binary64 number other than the root lies farther from the true root, and never as near
  pub nearest : IsNearest a (root a)
  nearest true k d f o =
      let t = parts_of m e (fitted m e h) in
      let u = units_high m e (fitted m e h) in
      at_units true (in_units k d) (side_minus (R m e h) (M m e h) c (R-near (n m e h) t u) (R-range (n m e h) t u).0 (M-range (n m e h) t u).0 (in_units k d))
  nearest false k d f o =
      let t = parts_of m e (fitted m e h) in
      let u = units_high m e (fitted m e h) in
      let g = significand false k d f in
      let other : in_units k d ≡ R m e h * x → ⊥ = λ i. o (same_value k d (root a) (R m e h * 2 ^ p m e h) (2 ^ 590) f (root_fits m e h) (root_value m e h) (i ∙ sym r_units)) in
      at_units false (in_units k d) (side_plus (R m e h) (M m e h) c (R-near (n m e h) t u) (R-range (n m e h) t u).0 (M-range (n m e h) t u).0 (in_units k d) g.q g.j g.is g.small other)

  -- so no midpoint is the true root
  pub no_tie : (k : ℕ) (d : ℤ) → T (fits binary64 (fin false k d)) → (fin false k d ≡ root a → ⊥) →
      (units_of (root a) + in_units k d) * (units_of (root a) + in_units k d) ≡ 4 * (n m e h * 2 ^ 1074) → ⊥
  no_tie k d f o q = ⊎_elim (λ v. ne_of_lt v.1 q) (λ v. ne_of_lt v.1 (sym q)) (nearest false k d f o)

-- The root of each kind of number, by the tests that the code makes.
use Prim.Native.Nat as nat
use Prim.Native.Nat.{ℕ, suc, ◌+◌, ◌*◌, ◌^◌, ◌<◌}
use native.Mathlib.Omega.{arith}
use mathlib.Core.Bool.{true, false, not}
use mathlib.Core.Path.{◌≡◌, refl, sym, ap, subst, ◌∙◌}
use lib.IntN.{ℤ}
use lib.Dec.{T}
use borrow.Author.Tests.{le-ltb}
use lib.Ieee.{Float, nan, inf, fin, binary64, lt, le, eq, up, down, div, fits, is_nan, to_bits, of_bits, nan_bits}
use Rattle.numbers.specs.Words.{zero, finite}
use Rattle.numbers.proofs.Ways.{never}
use Rattle.numbers.proofs.Signs.{zero_is_zero, nonzero_is_not, minus_is_below, plus_is_not_below}
use Rattle.root.specs.Root.{root, in_units}
use Rattle.root.specs.Steps.{root_bits, units_of_bits}
use Rattle.root.specs.Nearest.{Positive}
use Rattle.root.proofs.Units.{Fit, fit, parts_of, units_high, k_high, bits_are, units_of_bits_lem}
use Rattle.root.proofs.Result.{result, result_number}

pub root_zero : (a : Float) → eq a zero ≡ true → a ≡ root a
unfolding root eq of_bits
root_zero nan h = refl
root_zero (inf true) h = cc
root_zero (inf false) h = refl
root_zero (fin s nat.zero e) h = refl
root_zero (fin s (suc m) e) h = cc (nonzero_is_not s m e)

pub root_below : (a : Float) → eq a zero ≡ false → lt a zero ≡ true → div binary64 zero zero ≡ root a
unfolding root lt div of_bits
root_below nan k h = refl
root_below (inf true) k h = refl
root_below (inf false) k h = cc
root_below (fin s nat.zero e) k h = cc (zero_is_zero s e)
root_below (fin true (suc m) e) k h = refl
root_below (fin false (suc m) e) k h = never h (plus_is_not_below (suc m) e)

pub root_not_finite : (a : Float) → lt a zero ≡ false → finite a ≡ false → a ≡ root a
unfolding root lt finite of_bits
root_not_finite nan k h = refl
root_not_finite (inf true) k h = cc
root_not_finite (inf false) k h = refl
root_not_finite (fin s m e) k h = cc

pub is_positive : (a : Float) → eq a zero ≡ false → lt a zero ≡ false → finite a ≡ true → Positive a
unfolding finite
is_positive nan z k h = never h refl
is_positive (inf s) z k h = never h refl
is_positive (fin s nat.zero e) z k h = never (zero_is_zero s e) z
is_positive (fin true (suc m) e) z k h = never (minus_is_below m e) k
is_positive (fin false (suc m) e) z k h = (m, e, refl)

-- the two tests that come first: above 0.0, and at most the largest finite number
pub above_zero : (a : Float) → lt zero a ≡ true → le a (of_bits binary64 0x7fef_ffff_ffff_ffff) ≡ true → Positive a
unfolding lt le eq of_bits
above_zero nan h k = never h refl
above_zero (inf true) h k = never h refl
above_zero (inf false) h k = never k refl
above_zero (fin true m e) h k = never h refl
above_zero (fin false nat.zero e) h k = never h (le-ltb (0 * 1 * down e) (0 * up e * 1) (omega arith))
above_zero (fin false (suc m) e) h k = (m, e, refl)

pub positive_number : (a : Float) → Positive a → T (not (is_nan a))
unfolding is_nan
positive_number nan p = never (ap is_nan p.2) refl
positive_number (inf s) p = tt
positive_number (fin s m e) p = tt

-- what the code does with the bits of a positive finite number
module _ (a : Float) (p : Positive a) (h : T (fits binary64 a)) where
  abbrev m : ℕ
  m = p.0

  abbrev e : ℤ
  e = p.1

  here : Fit (suc m) e
  here = fit false m e (subst (λ (x : Float). T (fits binary64 x)) (sym p.2) h)

  abbrev n : ℕ
  n = in_units (suc m) e

  bits_here : to_bits binary64 a ≡ (parts_of m e here).k * 2 ^ 52 + (parts_of m e here).q
  bits_here = ap (to_bits binary64) (sym p.2) ∙ bits_are m e here

  pub bits_range : (0 < to_bits binary64 a) × (to_bits binary64 a < 2047 * 2 ^ 52)
  bits_range = let t = parts_of m e here in omega (arith, bits_here, k_high m e here)

  units_here : units_of_bits (to_bits binary64 a) ≡ n
  units_here = ap units_of_bits bits_here ∙ units_of_bits_lem n (parts_of m e here)

  pub root_positive : of_bits binary64 (root_bits (units_of_bits (to_bits binary64 a))) ≡ root a
  unfolding root
  root_positive = ap (λ (x : ℕ). of_bits binary64 (root_bits x)) units_here ∙ result n (parts_of m e here) (units_high m e here) ∙ ap root p.2

  pub root_number : nan_bits binary64 (root_bits (units_of_bits (to_bits binary64 a))) ≡ false
  root_number = ap (λ (x : ℕ). nan_bits binary64 (root_bits x)) units_here ∙ result_number n (parts_of m e here) (units_high m e here)

pub number_is : (a : Float) → finite a ≡ true → T (not (is_nan a))
unfolding finite is_nan
number_is nan h = never h refl
number_is (inf s) h = tt
number_is (fin s m e) h = tt

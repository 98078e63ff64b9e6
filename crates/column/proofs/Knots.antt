-- At its own knots a curve that was built always answers: they are numbers, and inside the knots.
use Prim.Native.Nat.{ℕ, ◌+◌, ◌-◌, ◌≤◌, ◌<◌}
use native.Mathlib.Omega.{arith}
use mathlib.Core.Bool.{Bool, true, false, not, ◌&&◌}
use mathlib.Core.List.{List}
use mathlib.Core.Logic.{⊎_elim}
use mathlib.Core.Path.{◌≡◌, refl, ap, ◌∙◌}
use lib.Ieee.{Float, lt, le, ne}
use lib.ListN.{length}
use Rattle.numbers.specs.Words.{finite}
use Rattle.numbers.proofs.AtMost.{le_of_below}
use Rattle.numbers.proofs.Every.{all_at}
use Rattle.numbers.proofs.Monotone.{finite_number}
use Rattle.numbers.proofs.Nan.{not_nan}
use Rattle.numbers.proofs.Ways.{lt_or_le}
use Rattle.table.specs.Check.{all_finite, rising}
use Rattle.table.specs.Table.{at}
use Rattle.curve.specs.declared.curve.Curve.{Curve}
use Rattle.query.specs.Query.{outside}
use Rattle.query.proofs.Sides.{climbs}

module _ (x : List Float) (knots : all_finite x ≡ true) (rise : rising x ≡ true) where
  pub knot_finite : (i : ℕ) → i < length x → finite (at x i) ≡ true
  unfolding all_finite
  knot_finite i l = all_at (length x) (λ k. finite (at x k)) knots i l

  -- a knot is not below an earlier one
  pub knot_order : (i j : ℕ) → i ≤ j → j < length x → le (at x i) (at x j) ≡ true
  knot_order i j l m =
      ⊎_elim
      (λ (h : i < j).
      let e : j ≡ i + 1 + (j - i - 1) = omega (arith, h) in
      le_of_below (at x i) (at x j) (ap (λ (k : ℕ). lt (at x i) (at x k)) e ∙ climbs x rise i (j - i - 1) (omega (arith, h, m))))
      (λ (h : j ≤ i). let e : j ≡ i = omega (arith, l, h) in ap (λ (k : ℕ). le (at x i) (at x k)) e ∙ finite_number (at x i) (knot_finite i (omega (arith, l, m))))
      (lt_or_le i j)

  pub knot_rise : (i j : ℕ) → i < j → j < length x → lt (at x i) (at x j) ≡ true
  knot_rise i j h m =
      let e : j ≡ i + 1 + (j - i - 1) = omega (arith, h) in
      ap (λ (k : ℕ). lt (at x i) (at x k)) e ∙ climbs x rise i (j - i - 1) (omega (arith, h, m))

  pub knot_number : (i : ℕ) → i < length x → ne (at x i) (at x i) ≡ false
  knot_number i l = not_nan (at x i) (knot_finite i l)

  pub knot_inside : (curve : Curve) (i : ℕ) → i < length x → outside x curve (at x i) ≡ false
  knot_inside curve i l = by curve.extrapolates
    where
      by : (b : Bool) → not b && not (le (at x 0) (at x i) && le (at x i) (at x (length x - 1))) ≡ false
      by true = refl
      by false = rw (knot_order 0 i (omega arith) l, knot_order i (length x - 1) (omega (arith, l)) (omega (arith, l)))

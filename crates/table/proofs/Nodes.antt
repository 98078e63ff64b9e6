-- In the safe mode no node is below 0: the inner ones are weighted means of averages, and the outer ones are held there.
use Rattle.std.specs.Prelude.{None, Option, Some}
use Prim.Native.Nat.{ℕ, ◌+◌, ◌-◌, ◌<◌}
use native.Mathlib.Omega.{arith}
use native.Mathlib.Nat.{eq-or-lt_of_le, eq-zero-or-pos}
use mathlib.Core.Bool.{Bool, true, false, cond}
use mathlib.Core.List.{List}
use mathlib.Core.Logic.{⊎_elim}
use mathlib.Core.Path.{◌≡◌, refl}
use borrow.Author.Tests.{eqb-false}
use lib.Dec.{eqb}
use lib.Ieee.{Float, lt, le}
use lib.ListN.{length}
use Rattle.numbers.specs.Words.{◌⊕◌, ◌⊖◌, ◌⊗◌, ◌⊘◌, zero, half, three_halves}
use Rattle.numbers.proofs.Every.{all_at}
use Rattle.numbers.proofs.Plus.{is_plus, sum_plus, quotient_plus, difference_plus, product_not_below, sum_not_under, not_under, zero_not_under}
use Rattle.numbers.proofs.Ways.{of_both}
use Rattle.table.specs.Check.{rising, from_zero}
use Rattle.table.specs.Safe.{NotBelow, SeamNotBelow, EndNotBelow, GivenNotBelow}
use Rattle.table.specs.Table.{at, inner, seamed, outer, or_given, middle_at, second, second_last, first_node, last_node, node_at, End}
use Rattle.table.specs.declared.ends.Frame.{Frame}
use Rattle.table.specs.declared.ends.Seam.{Seam}

-- the share of a length in the two that meet at a knot
share_plus : (a b : Float) → is_plus a ≡ true → is_plus b ≡ true → (c : Float) → is_plus c ≡ true → is_plus (c ⊘ (a ⊕ b)) ≡ true
share_plus a b p q c r = quotient_plus c (a ⊕ b) r (sum_plus a b p q)

inner_not_below : (before here after y next : Float) → lt before here ≡ true → lt here after ≡ true → NotBelow y → NotBelow next → NotBelow (inner before here after y next)
inner_not_below before here after y next g h p q =
    let b = here ⊖ before in
    let a = after ⊖ here in
    let b-plus = difference_plus before here g in
    let a-plus = difference_plus here after h in
    sum_not_under (a ⊘ (a ⊕ b) ⊗ y) (b ⊘ (a ⊕ b) ⊗ next)
    (product_not_below (a ⊘ (a ⊕ b)) y (share_plus a b a-plus b-plus a a-plus) p)
    (product_not_below (b ⊘ (a ⊕ b)) next (share_plus a b a-plus b-plus b b-plus) q)

seamed_not_below : (s : Option Seam) (i : ℕ) (f : Float) → SeamNotBelow s → NotBelow f → NotBelow (seamed s i f)
seamed_not_below None i f p q = q
seamed_not_below (Some s) i f p q = of_both NotBelow (eqb i s.count) s.node f p q

-- an outer node is held at 0 where it would be below
held : (g : Float) → NotBelow (cond (lt g zero) zero g)
held g = by (lt g zero) refl
  where
    by : (b : Bool) → lt g zero ≡ b → NotBelow (cond b zero g)
    by true e = zero_not_under
    by false e = e

outer_not_below : (y f : Float) → NotBelow (outer true y f)
outer_not_below y f = held (three_halves ⊗ y ⊖ half ⊗ f)

given_not_below : (e : End) (f : Float) → EndNotBelow e → NotBelow f → NotBelow (or_given e f)
given_not_below None f p q = q
given_not_below (Some g) f p q = p

module _ (x y : List Float) (frame : Frame) (positive : frame.method.force_positive ≡ true) (same : length x ≡ length y)
    (rise : rising x ≡ true) (signs : from_zero y ≡ true) (given : GivenNotBelow frame) where
  average : (i : ℕ) → 0 < i → i < length y → NotBelow (at y i)
  unfolding from_zero
  average i p l =
      let e : i - 1 + 1 ≡ i = omega arith in
      not_under (at y i) (rw e at (all_at (length y - 1) (λ k. le zero (at y (k + 1))) signs (i - 1) (omega (arith, p, l))))

  middle_not_below : (i : ℕ) → 0 < i → i < length x - 1 → NotBelow (middle_at x y frame i)
  unfolding middle_at rising
  middle_not_below i p l =
      let e : i - 1 + 1 ≡ i = omega arith in
      let rises = all_at (length x - 1) (λ k. lt (at x k) (at x (k + 1))) rise in
      seamed_not_below frame.seam i _ given.seam
      (inner_not_below (at x (i - 1)) (at x i) (at x (i + 1)) (at y i) (at y (i + 1))
      (rw e at (rises (i - 1) (omega (arith, p, l)))) (rises i (omega (arith, l)))
      (average i p (omega (arith, l, same))) (average (i + 1) (omega arith) (omega (arith, l, same))))

  first_not_below : NotBelow (first_node x y frame)
  unfolding first_node
  first_not_below = rw positive (given_not_below frame.left _ given.left (outer_not_below (at y 1) (second x y frame)))

  last_not_below : NotBelow (last_node x y frame)
  unfolding last_node
  last_not_below = rw positive (given_not_below frame.right _ given.right (outer_not_below (at y (length x - 1)) (second_last x y frame)))

  pub node_not_below : (i : ℕ) → i < length x → NotBelow (node_at x y frame i)
  unfolding node_at
  node_not_below i l = by (eqb i 0) (eqb i (length x - 1)) (eqb-false i 0) (eqb-false i (length x - 1))
    where
      by : (a b : Bool) → (a ≡ false → i ≡ 0 → ⊥) → (b ≡ false → i ≡ length x - 1 → ⊥) → NotBelow (cond a (first_node x y frame) (cond b (last_node x y frame) (middle_at x y frame i)))
      by true b p q = first_not_below
      by false true p q = last_not_below
      by false false p q =
          ⊎_elim
          (λ (e : i ≡ 0). absurd (p refl e))
          (λ (above : 0 < i). ⊎_elim
          (λ (e : i ≡ length x - 1). absurd (q refl e))
          (λ (under : i < length x - 1). middle_not_below i above under)
          (eq-or-lt_of_le (omega (arith, l))))
          (eq-zero-or-pos i)

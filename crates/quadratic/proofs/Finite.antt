-- In the safe mode the parabolas stay finite: their values in the period, for nodes from 0 to 2 ^ 152 and an average above 0 and at most 2 ^ 150.
use Prim.Native.Nat.{ℕ, suc, zero}
use mathlib.Core.Bool.{true, false}
use mathlib.Core.Path.{◌≡◌, refl}
use lib.IntN.{pos}
use lib.Ieee.{Float, nan, inf, fin, binary64, le, lt, odd, of_bits}
use lib.Ieee.Fits.{add-fits}
use Rattle.numbers.specs.Words.{◌⊕◌, ◌⊖◌, ◌⊗◌, ◌⊘◌, one, narrow, finite}
use Rattle.numbers.specs.Words as words
use Rattle.numbers.proofs.Ways.{never, of_both, of_each}
use Rattle.numbers.proofs.Every.{and_split}
use Rattle.numbers.proofs.AtMost.{le_of_below}
use Rattle.numbers.proofs.Bounds.{Within, within_finite, wider, neg_within, sum_within, difference_within, product_within, quotient_within}
use Rattle.numbers.proofs.Low.{Above}
use Rattle.numbers.proofs.Monotone.{quotient_mono, product_plus}
use Rattle.numbers.proofs.Sums.{difference_not_above}
use Rattle.numbers.proofs.Ratios.{zero_within, one_within, two_within, three_within, four_within, six_within, three_low, between_within, over_narrow, narrow_above, plus_from_zero, below_from_zero, divisor, divided_finite}
use Rattle.root.specs.Root.{root, root_of, nearest_root, scaled, pairs, in_units}
use Rattle.quadratic.specs.Parabola.{a_of, b_of}
use Rattle.quadratic.specs.Quadratic as quadratic
use Rattle.quadratic.specs.QuadraticMin as quadmin
use Rattle.quadratic.specs.declared.quadratic_min.QuadraticMin.{QuadraticMin}

-- a parabola with these ends and this average, at a place that may lie far outside the period
module _ {F G y v : Float} (wF : Within 152 F) (wG : Within 152 G) (wy : Within 211 y) (wv : Within 42 v) where
  pub a_within : Within 215 (a_of F G y)
  a_within = difference_within (sum_within (product_within three_within wF tt) (product_within three_within wG tt) tt) (product_within six_within wy tt) tt

  pub b_within : Within 215 (b_of F G y)
  b_within = neg_within (difference_within (sum_within (product_within four_within wF tt) (product_within two_within wG tt) tt) (product_within six_within wy tt) tt)

  squared : Within 299 (a_of F G y ⊗ v ⊗ v)
  squared = product_within (product_within a_within wv tt) wv tt

  at_place : Within 1000 (F ⊕ b_of F G y ⊗ v ⊕ a_of F G y ⊗ v ⊗ v)
  at_place = wider (sum_within (sum_within wF (product_within b_within wv tt) tt) squared tt) tt

  at_place_plain : Within 1000 (a_of F G y ⊗ v ⊗ v ⊕ b_of F G y ⊗ v ⊕ F)
  at_place_plain = wider (sum_within (sum_within squared (product_within b_within wv tt) tt) wF tt) tt

module _ (x0 x1 F G y total x : Float) (wF : Within 152 F) (wG : Within 152 G) (wy : Within 150 y) (at : Within 0 ((x ⊖ x0) ⊘ (x1 ⊖ x0))) where
  pub plain : Within 1000 (quadratic.value (quadratic.new x0 x1 F G y total) x)
  plain = at_place_plain wF wG (wider wy tt) (wider at tt)

  whole : Within 1000 (quadmin.value (quadmin.unsplit x0 x1 F G y total) x)
  unfolding quadmin.value
  whole = at_place wF wG (wider wy tt) (wider at tt)

  -- about a parabola that touches zero with the average t
  module _ {t : Float} (wt : Within 153 t) (ratio : lt narrow (y ⊘ t) ≡ true) where
    split : Within 1000 (quadmin.value (quadmin.split x0 x1 F G y total t) x)
    unfolding quadmin.value quadmin.split
    split =
        of_both (Within 1000) (le x _) _ _ (at_place wF wG (wider wt tt) (wider (over_narrow (y ⊘ t) at ratio tt) tt))
        (of_both (Within 1000) (lt x _) _ _ (wider zero_within tt)
        (at_place wF wG (wider wt tt) (difference_within one_within (over_narrow (y ⊘ t) (difference_within one_within at tt) ratio tt) tt)))

-- ---- the average at which a parabola touches zero
odd_plus : (d q k l : ℕ) → (finite (odd d false q k l) ≡ true) × (le words.zero (odd d false q k l) ≡ true)
unfolding odd finite
odd_plus d zero k l = (refl, plus_from_zero zero _)
odd_plus d (suc q) k l = (refl, plus_from_zero _ _)

root_plus : (n : ℕ) → (finite (root_of n) ≡ true) × (le words.zero (root_of n) ≡ true)
unfolding root_of
root_plus n = odd_plus 53 (nearest_root (scaled n)) (pairs n) 590

root_from_zero : (x : Float) → finite x ≡ true → le words.zero x ≡ true → (finite (root x) ≡ true) × (le words.zero (root x) ≡ true)
unfolding root finite
root_from_zero nan f h = never f refl
root_from_zero (inf s) f h = never f refl
root_from_zero (fin s zero e) f h = (refl, h)
root_from_zero (fin true (suc m) e) f h = never h (below_from_zero m e)
root_from_zero (fin false (suc m) e) f h = root_plus (in_units (suc m) e)

module _ (F G y : Float) (wF : Within 152 F) (wG : Within 152 G) (zF : le words.zero F ≡ true) (zG : le words.zero G ≡ true) (ly : Above y) where
  abbrev t : Float
  t = quadmin.touching F G

  module _ (seen : quadmin.in_sight (y ⊘ t) ≡ true) where
    in_sight_lem : (lt narrow (y ⊘ t) ≡ true) × (le (y ⊘ t) one ≡ true)
    unfolding quadmin.in_sight
    in_sight_lem = and_split (lt narrow (y ⊘ t)) (le (y ⊘ t) one) seen

    touching_above : (finite t ≡ true) × (lt words.zero t ≡ true)
    touching_above = divisor t ly (narrow_above (y ⊘ t) in_sight_lem.0) in_sight_lem.1

    touching_within : Within 153 t
    unfolding of_bits
    touching_within =
        let wp = product_within wF wG tt in
        let r = root_from_zero (F ⊗ G) (within_finite wp) (product_plus F G (within_finite wF) (within_finite wG) zF zG) in
        let ws = sum_within wF wG tt in
        let under = difference_not_above (F ⊕ G) (root (F ⊗ G)) (add-fits binary64 F G) (within_finite ws) r.1 in
        between_within t (quotient_within ws three_low tt) (le_of_below words.zero t touching_above.1)
        (quotient_mono (F ⊕ G ⊖ root (F ⊗ G)) (F ⊕ G) 2 (pos 0) (divided_finite (F ⊕ G ⊖ root (F ⊗ G)) 3 (pos 0) touching_above.0) (within_finite ws) under)

module _ (x0 x1 F G y total x : Float) (wF : Within 152 F) (wG : Within 152 G) (zF : le words.zero F ≡ true) (zG : le words.zero G ≡ true)
    (wy : Within 150 y) (ly : Above y) (at : Within 0 ((x ⊖ x0) ⊘ (x1 ⊖ x0))) where
  pub safe : Within 1000 (quadmin.value (quadmin.safe x0 x1 F G y total) x)
  unfolding quadmin.safe
  safe =
      let P : QuadraticMin → Type 0 = λ s. Within 1000 (quadmin.value s x) in
      let unsplit = whole x0 x1 F G y total x wF wG wy at in
      of_both P (quadmin.splits_safely F G y) _ _
      (of_each P (quadmin.in_sight (y ⊘ quadmin.touching F G)) _ _
      (λ h. split x0 x1 F G y total x wF wG wy at (touching_within F G y wF wG zF zG ly h) (in_sight_lem F G y wF wG zF zG ly h).0)
      (λ h. of_both P (le (y ⊘ quadmin.touching F G) narrow) _ _ (whole x0 x1 y y y total x (wider wy tt) (wider wy tt) wy at) unsplit))
      unsplit

-- Where the bends of the convex-monotone kinds lie: an eta is a number and not at an end, for a monotonicity from 0 to 1 - 2 ^ -20.
use Prim.Native.Nat.{suc, zero}
use native.Mathlib.Nat.{zero-lt-suc}
use mathlib.Core.Bool.{true, false, ◌&&◌}
use mathlib.Core.Logic.{⊎_elim}
use mathlib.Core.Path.{◌≡◌, refl, ap, ◌∙◌}
use lib.IntN.{ℤ, pos, negsuc}
use lib.Dec.{T, lit≤}
use lib.Ieee.{Float, nan, inf, fin, binary64, le, lt, neg, add, sub, mul, div, of_bits, fits}
use Rattle.numbers.specs.Words.{◌⊕◌, ◌⊖◌, ◌⊗◌, ◌⊘◌, one, two, three, tiny, abs, finite}
use Rattle.numbers.specs.Words as words
use Rattle.numbers.proofs.Ways.{never, of_each, or_some}
use Rattle.numbers.proofs.Every.{and_split}
use Rattle.numbers.proofs.AtMost.{le_on, le_neg, le_of_below}
use Rattle.numbers.proofs.Sums.{sum_mono, difference_anti, sum_not_below, difference_not_above, length_from_zero, stays}
use Rattle.numbers.proofs.Bounds.{Within, Low, within_finite, sum_within, difference_within, product_within}
use Rattle.numbers.proofs.Low.{small, small_low, low_up, plus_above}
use Rattle.numbers.proofs.Monotone.{finite_number, not_below, not_both, lt_le, le_lt, product_mono, quotient_mono}
use Rattle.numbers.proofs.Ratios.{zero_within, one_within, two_within, three_within, between_within, unit_within, neg_neg, product_neg, minus_zero, ratio, ratio_below, neg_finite, self_less, quotient_number, below_from_zero, zero_level}
use Rattle.convex.proofs.Finite.{Inner}
use Rattle.table.specs.declared.method.ConvexMonotone.{ConvexMonotone}
use Rattle.choice.specs.Regions.{flat, in_second, in_third}
use Rattle.choice.specs.ConvexPart.{at_most, at_least, b2, b3}

-- 1 - 2 ^ -20, the largest monotonicity of which something is said
abbrev pub almost_one : Float
almost_one = of_bits binary64 0x3fef_fffe_0000_0000

almost_within : Within 0 almost_one
unfolding of_bits
almost_within = record { sign = false; part = 1048575; power = negsuc 19; is = refl; size = lit≤ tt }

-- 1 - 2 ^ -21
abbrev highest : Float
highest = fin false 2097151 (negsuc 20)

highest_within : Within 0 highest
highest_within = record { sign = false; part = 2097151; power = negsuc 20; is = refl; size = lit≤ tt }

-- from 2 ^ -21 to that
record Between (eta : Float) : Type 0 where
  low : le (small 20) eta ≡ true
  high : le eta highest ≡ true

abbrev pub InUnit : Float → Type 0
InUnit x = (le words.zero x ≡ true) × (le x one ≡ true)

zero_minus : le (neg words.zero) words.zero ≡ true
unfolding le neg of_bits
zero_minus = refl

zero_tiny : (e : ℤ) → lt (fin false 0 e) tiny ≡ true
unfolding lt finite of_bits
zero_tiny e = le_lt (fin false 0 e) words.zero tiny refl refl refl (zero_level false e).0 refl

-- what is at most that leaves 2 ^ -21 at least of 1
rest_low : {eta : Float} → Within 0 eta → le eta highest ≡ true → Low 21 (one ⊖ eta)
rest_low {eta} w h =
    low_up (one ⊖ eta) (small_low 20) (rw (← left) (difference_anti one eta highest (within_finite one_within) h)) (within_finite (difference_within one_within w tt))
  where
    left : one ⊖ highest ≡ small 20
    left = unfold of_bits sub in refl

inner : (eta : Float) → Between eta → Inner eta
unfolding le of_bits
inner eta b =
    let w = between_within eta highest_within (le_on words.zero (small 20) eta refl b.low) b.high in
    record { within = w; low = low_up eta (small_low 20) b.low (within_finite w); rest_low = rest_low w b.high }

-- ---- the bounds of eta
module _ (method : ConvexMonotone) (from_zero : le words.zero method.monotonicity ≡ true) (below_one : le method.monotonicity almost_one ≡ true) where
  abbrev m : Float
  m = method.monotonicity

  m_within : Within 0 m
  m_within = between_within m almost_within from_zero below_one

  b2_between : Between (b2 method)
  unfolding of_bits le add div
  b2_between =
      let f = within_finite one_within in
      let w = within_finite (sum_within one_within m_within tt) in
      let least = quotient_mono (one ⊕ words.zero) (one ⊕ m) 0 (pos 1) (within_finite (sum_within one_within zero_within tt)) w (sum_mono one words.zero m f from_zero) in
      let most = quotient_mono (one ⊕ m) (one ⊕ almost_one) 0 (pos 1) w (within_finite (sum_within one_within almost_within tt)) (sum_mono one m almost_one f below_one) in
      record { low = le_on (small 20) ((one ⊕ words.zero) ⊘ two) (b2 method) refl least; high = le_on (b2 method) ((one ⊕ almost_one) ⊘ two) highest most refl }

  b3_between : Between (b3 method)
  unfolding of_bits le sub div
  b3_between =
      let f = within_finite one_within in
      let w = within_finite (difference_within one_within m_within tt) in
      let least = quotient_mono (one ⊖ almost_one) (one ⊖ m) 0 (pos 1) (within_finite (difference_within one_within almost_within tt)) w
      (difference_anti one m almost_one f below_one) in
      let most = quotient_mono (one ⊖ m) (one ⊖ words.zero) 0 (pos 1) w (within_finite (difference_within one_within zero_within tt))
      (difference_anti one words.zero m f from_zero) in
      record { low = le_on (small 20) ((one ⊖ almost_one) ⊘ two) (b3 method) refl least; high = le_on (b3 method) ((one ⊖ words.zero) ⊘ two) highest most refl }

  -- what is cut off at both
  b2_number : le (b2 method) (b2 method) ≡ true
  b2_number = finite_number (b2 method) (within_finite (inner (b2 method) b2_between).within)

  b3_number : le (b3 method) (b3 method) ≡ true
  b3_number = finite_number (b3 method) (within_finite (inner (b3 method) b3_between).within)

  cut_above : (z : Float) → le z z ≡ true → (le (at_most (b2 method) z) (at_most (b2 method) z) ≡ true) × (le (at_most (b2 method) z) highest ≡ true)
  unfolding at_most
  cut_above z n =
      of_each (λ (w : Float). (le w w ≡ true) × (le w highest ≡ true)) (lt (b2 method) z) (b2 method) z
      (λ h. (b2_number, b2_between.high)) (λ h. (n, le_on z (b2 method) highest (not_below (b2 method) z b2_number n h) b2_between.high))

  cut_below : (w : Float) → le w w ≡ true → le w highest ≡ true → Between (at_least (b3 method) w)
  unfolding at_least
  cut_below w n k =
      of_each Between (lt w (b3 method)) (b3 method) w
      (λ h. b3_between) (λ h. record { low = le_on (small 20) (b3 method) w b3_between.low (not_below w (b3 method) n b3_number h); high = k })

  pub cut_inner : (z : Float) → le z z ≡ true → Inner (at_least (b3 method) (at_most (b2 method) z))
  cut_inner z n = let w = cut_above z n in inner _ (cut_below (at_most (b2 method) z) w.0 w.1)

  pub b2_inner : Inner (b2 method)
  b2_inner = inner (b2 method) b2_between

  pub b3_inner : Inner (b3 method)
  b3_inner = inner (b3 method) b3_between

  -- ---- the second and the third region
  module _ (P N : Float) (wP : Within 153 P) (wN : Within 153 N) (N-fits : T (fits binary64 N)) where
    abbrev Z : Float
    Z = neg two ⊗ P

    finite-P : finite P ≡ true
    finite-P = within_finite wP

    finite-N : finite N ≡ true
    finite-N = within_finite wN

    finite_difference : finite (N ⊖ P) ≡ true
    finite_difference = within_finite (difference_within wN wP tt)

    Z-is : Z ≡ neg (two ⊗ P)
    Z-is = product_neg two P (within_finite two_within) finite-P

    Z-finite : finite Z ≡ true
    Z-finite = rw Z-is (neg_finite (two ⊗ P) (within_finite (product_within two_within wP tt)))

    -- N less Z is N and twice P
    sum_is : N ⊖ Z ≡ N ⊕ two ⊗ P
    unfolding sub
    sum_is = ap (λ (z : Float). N ⊕ z) (ap neg Z-is ∙ neg_neg (two ⊗ P))

    -- where the node before the period lies below the average
    module _ (p : lt P words.zero ≡ true) where
      minus-P : le words.zero (neg P) ≡ true
      minus-P = le_on words.zero (neg words.zero) (neg P) minus_zero (le_neg P words.zero (le_of_below P words.zero p))

      twice-P : le (two ⊗ P) words.zero ≡ true
      unfolding mul of_bits le
      twice-P = product_mono two P words.zero (within_finite two_within) refl finite-P (within_finite zero_within) (le_of_below P words.zero p)

      grows : le N (N ⊖ P) ≡ true
      unfolding sub
      grows = sum_not_below N (neg P) N-fits finite-N minus-P

      difference_above : lt words.zero N ≡ true → lt words.zero (N ⊖ P) ≡ true
      difference_above n = lt_le words.zero N (N ⊖ P) (within_finite zero_within) finite-N finite_difference n grows

      third_rising : lt words.zero N ≡ true → InUnit (N ⊘ (N ⊖ P))
      third_rising n = ratio N (N ⊖ P) finite_difference (le_of_below words.zero N n) grows (difference_above n)

      second_rising : lt Z N ≡ true → InUnit ((N ⊕ two ⊗ P) ⊘ (N ⊖ P))
      unfolding sub
      second_rising h =
          let Z-low : le words.zero Z ≡ true = rw Z-is (le_on words.zero (neg words.zero) (neg (two ⊗ P)) minus_zero (le_neg (two ⊗ P) words.zero twice-P)) in
          ratio (N ⊕ two ⊗ P) (N ⊖ P) finite_difference (rw (← sum_is) (length_from_zero Z N Z-finite finite-N h))
          (sum_mono N (two ⊗ P) (neg P) finite-N (le_on (two ⊗ P) words.zero (neg P) twice-P minus-P))
          (difference_above (le_lt words.zero Z N (within_finite zero_within) Z-finite finite-N Z-low h))

    -- and where it lies above
    module _ (p : lt words.zero P ≡ true) where
      minus-P' : le (neg P) words.zero ≡ true
      minus-P' = le_on (neg P) (neg words.zero) words.zero (le_neg words.zero P (le_of_below words.zero P p)) zero_minus

      twice-P' : le words.zero (two ⊗ P) ≡ true
      unfolding mul of_bits le
      twice-P' = product_mono two words.zero P (within_finite two_within) refl (within_finite zero_within) finite-P (le_of_below words.zero P p)

      shrinks : le (N ⊖ P) N ≡ true
      shrinks = difference_not_above N P N-fits finite-N (le_of_below words.zero P p)

      difference_below : lt N words.zero ≡ true → lt (N ⊖ P) words.zero ≡ true
      difference_below n = le_lt (N ⊖ P) N words.zero finite_difference finite-N (within_finite zero_within) shrinks n

      third_falling : lt N words.zero ≡ true → InUnit (N ⊘ (N ⊖ P))
      third_falling n = ratio_below N (N ⊖ P) finite_difference (le_of_below N words.zero n) shrinks (difference_below n)

      second_falling : lt N Z ≡ true → InUnit ((N ⊕ two ⊗ P) ⊘ (N ⊖ P))
      unfolding sub
      second_falling h =
          let Z-high : le Z words.zero ≡ true = rw Z-is (le_on (neg (two ⊗ P)) (neg words.zero) words.zero (le_neg words.zero (two ⊗ P) twice-P') zero_minus) in
          ratio_below (N ⊕ two ⊗ P) (N ⊖ P) finite_difference (rw (← sum_is, ← self_less N finite-N) (difference_anti N N Z finite-N (le_of_below N Z h)))
          (sum_mono N (neg P) (two ⊗ P) finite-N (le_on (neg P) words.zero (two ⊗ P) minus-P' twice-P'))
          (difference_below (lt_le N Z words.zero finite-N Z-finite (within_finite zero_within) h Z-high))

    pub second_unit : in_second P N ≡ true → InUnit ((N ⊕ two ⊗ P) ⊘ (N ⊖ P))
    unfolding in_second
    second_unit region =
        ⊎_elim
        (λ k. let q = and_split (lt P words.zero) (lt Z N) k in second_rising q.0 q.1)
        (λ k. let q = and_split (lt words.zero P) (lt N Z) k in second_falling q.0 q.1)
        (or_some (lt P words.zero && lt Z N) (lt words.zero P && lt N Z) region)

    pub second_eta : in_second P N ≡ true → lt ((N ⊕ two ⊗ P) ⊘ (N ⊖ P)) (b2 method) ≡ true
        → Within 0 ((N ⊕ two ⊗ P) ⊘ (N ⊖ P)) × Low 21 (one ⊖ (N ⊕ two ⊗ P) ⊘ (N ⊖ P))
    second_eta region h =
        let eta = (N ⊕ two ⊗ P) ⊘ (N ⊖ P) in
        let r = second_unit region in
        let w = unit_within eta r.0 r.1 in
        (w, rest_low w (le_on eta (b2 method) highest (le_of_below eta (b2 method) h) b2_between.high))

    pub third_eta : in_third P N ≡ true → lt (b3 method) (N ⊘ (N ⊖ P) ⊗ three) ≡ true → Within 2 (N ⊘ (N ⊖ P) ⊗ three) × Low 21 (N ⊘ (N ⊖ P) ⊗ three)
    unfolding in_third
    third_eta region h =
        let eta = N ⊘ (N ⊖ P) ⊗ three in
        let r : InUnit (N ⊘ (N ⊖ P)) =
        ⊎_elim
        (λ k. let q = and_split (lt words.zero P) _ k in third_falling q.0 (and_split (lt N words.zero) _ q.1).0)
        (λ k. let q = and_split (lt P words.zero) _ k in third_rising q.0 (and_split (lt words.zero N) _ q.1).0)
        (or_some (lt words.zero P && _) (lt P words.zero && _) region) in
        let w = product_within (unit_within (N ⊘ (N ⊖ P)) r.0 r.1) three_within tt in
        (w, low_up eta (small_low 20) (le_on (small 20) (b3 method) eta b3_between.low (le_of_below (b3 method) eta h)) (within_finite w))

-- ---- the fourth region: the eta before it is cut off is no NaN, since not both nodes are on the average
tiny_zero : (x : Float) → finite x ≡ true → le x words.zero ≡ true → le words.zero x ≡ true → lt (abs x) tiny ≡ true
unfolding finite abs
tiny_zero nan f h l = never f refl
tiny_zero (inf s) f h l = never f refl
tiny_zero (fin true (suc m) e) f h l = never l (below_from_zero m e)
tiny_zero (fin false (suc m) e) f h l = not_both words.zero (fin false (suc m) e) (within_finite zero_within) refl (plus_above (suc m) e (zero-lt-suc m)) h
tiny_zero (fin s zero e) f h l = zero_tiny e

pub fourth_number : (P N : Float) → Within 153 P → Within 153 N → T (fits binary64 P) → flat P N ≡ false → le (N ⊘ (P ⊕ N)) (N ⊘ (P ⊕ N)) ≡ true
fourth_number P N wP wN P-fits bent = quotient_number N (P ⊕ N) (within_finite wN) (within_finite (sum_within wP wN tt)) level
  where
    finite-P : finite P ≡ true
    finite-P = within_finite wP

    both : lt (abs P) tiny ≡ true → lt (abs N) tiny ≡ true → flat P N ≡ true
    both p n = unfold flat in rw (p, n)

    level : le N words.zero ≡ true → le words.zero N ≡ true → le (P ⊕ N) words.zero ≡ true → le words.zero (P ⊕ N) ≡ true → ⊥
    level a b c d =
        let high = le_on P (P ⊕ N) words.zero (sum_not_below P N P-fits finite-P b) c in
        let low = le_on words.zero (P ⊕ N) P d (le_on (P ⊕ N) (P ⊕ words.zero) P (sum_mono P N words.zero finite-P a) (stays P P-fits finite-P).1) in
        never (both (tiny_zero P finite-P high low) (tiny_zero N (within_finite wN) a b)) bent

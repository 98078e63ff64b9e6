-- Our own: the safe split beside the careful one. Its record is the touching parabola no longer than its period, the flat one, or the one that is not split.
use mathlib.Core.Bool.{Bool, true, false, cond}
use mathlib.Core.Logic.{◌⊎◌, inl, inr, ⊎_elim}
use mathlib.Core.Path.{◌≡◌, refl, sym, ap, ◌∙◌}
use lib.Ieee.{Float, binary64, le, lt, of_bits}
use lib.Ieee.Fits.{sub-fits}
use Rattle.numbers.specs.Words.{◌⊖◌, ◌⊗◌, ◌⊘◌, zero, one, narrow}
use Rattle.numbers.specs.OneOutcome.{Follows}
use Rattle.numbers.proofs.Every.{and_split}
use Rattle.numbers.proofs.Order.{lt_on}
use Rattle.numbers.proofs.Shrinking.{shrinks}
use Rattle.numbers.proofs.Ways.{never}
use Rattle.quadratic.specs.declared.quadratic_min.QuadraticMin.{QuadraticMin}
use Rattle.quadratic.specs.QuadraticMin as quadmin
use Rattle.quadratic.proofs.Careful.{tested}
use Rattle.quadratic.proofs.InPeriod.{Rising, long}
use Rattle.quadratic.proofs.quadratic_min.QuadraticMin.careful.Reads as careful
use Rattle.quadratic.proofs.quadratic_min.QuadraticMin.safe.Reads as safe

narrow_above : lt zero narrow ≡ true
unfolding lt of_bits
narrow_above = refl

module _ (x0 x1 f0 f1 average total : Float) where
  abbrev safely : QuadraticMin
  safely = quadmin.safe x0 x1 f0 f1 average total

  abbrev carefully : QuadraticMin
  carefully = quadmin.careful x0 x1 f0 f1 average total

  abbrev whole : QuadraticMin
  whole = quadmin.unsplit x0 x1 f0 f1 average total

  abbrev flat : QuadraticMin
  flat = quadmin.level x0 x1 average total

  abbrev split_at : Float → QuadraticMin
  split_at touching = quadmin.split x0 x1 f0 f1 average total touching

  abbrev ratio : Float
  ratio = average ⊘ quadmin.touching f0 f1

  abbrev careful_ratio : Float
  careful_ratio = average ⊘ quadmin.av_root f0 f1

  -- the three records, by the tests that lead to them
  pub whole_by_tests : quadmin.splits_safely f0 f1 average ≡ false → safely ≡ whole
  unfolding quadmin.safe
  whole_by_tests h = rw h

  module _ (passes : quadmin.splits_safely f0 f1 average ≡ true) where
    pub split_in_sight : quadmin.in_sight ratio ≡ true → safely ≡ split_at (quadmin.touching f0 f1)
    unfolding quadmin.safe
    split_in_sight h = rw (passes, h)

    pub flat_out_of_sight : quadmin.in_sight ratio ≡ false → le ratio narrow ≡ true → safely ≡ flat
    unfolding quadmin.safe
    flat_out_of_sight h k = rw (passes, h, k)

    pub whole_beyond : quadmin.in_sight ratio ≡ false → le ratio narrow ≡ false → safely ≡ whole
    unfolding quadmin.safe
    whole_beyond h k = rw (passes, h, k)

  pub three_records : (safely ≡ split_at (quadmin.touching f0 f1)) ⊎ ((safely ≡ flat) ⊎ (safely ≡ whole))
  three_records =
      ⊎_elim
      (λ p. ⊎_elim (λ h. inl (split_in_sight p h)) (λ h. inr (⊎_elim (λ k. inl (flat_out_of_sight p h k)) (λ k. inr (whole_beyond p h k)) (tested (le ratio narrow)))) (tested (quadmin.in_sight ratio)))
      (λ p. inr (inr (whole_by_tests p)))
      (tested (quadmin.splits_safely f0 f1 average))

  -- Where both modes split, they are one definition of two numbers that exact arithmetic does not tell apart (`touching_exact`); where neither does, they are
  -- the same record.
  pub both_split : quadmin.splits_safely f0 f1 average ≡ true → quadmin.in_sight ratio ≡ true → quadmin.splits f0 f1 average ≡ true → quadmin.in_period careful_ratio ≡ true →
      (safely ≡ split_at (quadmin.touching f0 f1)) × (carefully ≡ split_at (quadmin.av_root f0 f1))
  unfolding quadmin.careful
  both_split p h q k = (split_in_sight p h, rw (q, k))

  pub as_careful : quadmin.splits_safely f0 f1 average ≡ true → quadmin.in_sight ratio ≡ true → quadmin.splits f0 f1 average ≡ true → quadmin.in_period careful_ratio ≡ true →
      quadmin.touching f0 f1 ≡ quadmin.av_root f0 f1 → safely ≡ carefully
  as_careful p h q k e = let b = both_split p h q k in b.0 ∙ ap split_at e ∙ sym b.1

  pub both_whole : quadmin.splits_safely f0 f1 average ≡ false → quadmin.splits f0 f1 average ≡ false → safely ≡ carefully
  unfolding quadmin.careful
  both_whole p q = whole_by_tests p ∙ rw q

  -- A safe section that is split is no longer than its period.
  module _ (is-split : safely.split_region ≡ true) where
    in_sight_lem : (quadmin.in_sight ratio ≡ true) × (safely ≡ split_at (quadmin.touching f0 f1))
    unfolding quadmin.safe
    in_sight_lem = by (quadmin.splits_safely f0 f1 average) (quadmin.in_sight ratio) (le ratio narrow) refl refl
      where
        by : (a b c : Bool) → quadmin.in_sight ratio ≡ b → safely ≡ cond a (cond b (split_at (quadmin.touching f0 f1)) (cond c flat whole)) whole →
            (quadmin.in_sight ratio ≡ true) × (safely ≡ split_at (quadmin.touching f0 f1))
        by true true c e g = (e, g)
        by true false true e g = never is-split (ap (λ (s : QuadraticMin). s.split_region) g)
        by true false false e g = never is-split (ap (λ (s : QuadraticMin). s.split_region) g)
        by false b c e g = never is-split (ap (λ (s : QuadraticMin). s.split_region) g)

    pub ratio_in_sight : (lt narrow ratio ≡ true) × (le ratio one ≡ true)
    unfolding quadmin.in_sight
    ratio_in_sight = and_split (lt narrow ratio) (le ratio one) in_sight_lem.0

    pub not_stretched : le zero (x1 ⊖ x0) ≡ true → le safely.x_scaling (x1 ⊖ x0) ≡ true
    unfolding quadmin.split
    not_stretched h =
        let scaled : safely.x_scaling ≡ (x1 ⊖ x0) ⊗ ratio = ap (λ (s : QuadraticMin). s.x_scaling) in_sight_lem.1 in
        rw scaled (shrinks (x1 ⊖ x0) ratio (sub-fits binary64 x1 x0) h (lt_on zero narrow ratio narrow_above ratio_in_sight.0) ratio_in_sight.1)

-- ---- Of the functions themselves, called with the same numbers.
pub returned_as_careful : Follows safe.Post (λ κ a r s.
    (o : QuadraticMin) → careful.Post κ a o s → let (x0, (x1, (f0, (f1, (average, (total, _)))))) = a in
    quadmin.splits_safely f0 f1 average ≡ true → quadmin.in_sight (average ⊘ quadmin.touching f0 f1) ≡ true →
    quadmin.splits f0 f1 average ≡ true → quadmin.in_period (average ⊘ quadmin.av_root f0 f1) ≡ true →
    (r ≡ quadmin.split x0 x1 f0 f1 average total (quadmin.touching f0 f1)) × (o ≡ quadmin.split x0 x1 f0 f1 average total (quadmin.av_root f0 f1)))
returned_as_careful κ a r s allowed o careful-allowed p h q k =
    let (x0, (x1, (f0, (f1, (average, (total, _)))))) = a in
    let b = both_split x0 x1 f0 f1 average total p h q k in (allowed ∙ b.0, careful-allowed ∙ b.1)

pub returned_not_stretched : Follows safe.Post (λ κ a r s. let (x0, (x1, _)) = a in Rising x0 x1 → r.split_region ≡ true → le r.x_scaling (x1 ⊖ x0) ≡ true)
returned_not_stretched κ a r s allowed k is-split =
    let (x0, (x1, (f0, (f1, (average, (total, _)))))) = a in
    rw allowed (not_stretched x0 x1 f0 f1 average total (rw (← allowed) is-split) (long x0 x1 k))

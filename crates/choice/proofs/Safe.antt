-- Our own: what the safe mode makes of a period; and in every mode but the original's no Min parabola that is split is longer than its period.
use mathlib.Core.Bool.{true, false}
use mathlib.Core.Path.{◌≡◌, refl, ap, ◌∙◌}
use lib.Ieee.{Float, eq, le, lt}
use Rattle.numbers.specs.Words.{◌⊖◌, zero, one, finite}
use Rattle.numbers.specs.OneOutcome.{Follows}
use Rattle.numbers.proofs.Sums.{length_from_zero}
use Rattle.numbers.proofs.Ways.{of_both}
use Rattle.quadratic.specs.Quadratic as quadratic
use Rattle.quadratic.proofs.Safe.{not_stretched}
use Rattle.section.specs.ConstantGrad as grad
use Rattle.section.specs.EverywhereConstant as constant
use Rattle.section.specs.declared.section.Section.{Section}
use Rattle.section.specs.declared.section.Section.TheVariants as section
use Rattle.table.specs.Method.{with_split}
use Rattle.table.specs.declared.method.ConvexMonotone.{ConvexMonotone}
use Rattle.table.specs.declared.method.Split.{Split}
use Rattle.table.specs.declared.method.Split.TheVariants as split
use Rattle.choice.specs.declared.period.Period.{Period}
use Rattle.choice.specs.Regions.{flat, in_first}
use Rattle.choice.specs.QuadraticPart.{min_of, made, min_kind}
use Rattle.choice.specs.ConvexPart.{fourth, fourth_min, second, third, convex_part}
use Rattle.choice.specs.Choice.{first_region, mixed, shaped, by_steps, at_zero, section_of}
use Rattle.choice.specs.Careful.{min_within, within}
use Rattle.choice.proofs.Careful.{answered, answered_within, split_within, carefully_within}
use Rattle.choice.proofs.section_of.Reads as section-of

module _ (method : ConvexMonotone) (period : Period) where
  open method use {quadraticity, force_positive}
  open period use {x_prev, x_next, f_prev, f_next, f_average, prev_primitive}

  abbrev P : Float
  P = f_prev ⊖ f_average

  abbrev N : Float
  N = f_next ⊖ f_average

  abbrev original : Section
  original = section_of (with_split split.Original method) period

  abbrev safely_made : Section
  safely_made = section_of (with_split split.Safe method) period

  -- a period that traded at 0 is 0 everywhere
  pub zero_everywhere : force_positive ≡ true → eq f_average zero ≡ true → safely_made ≡ section.EverywhereConstant (constant.new zero prev_primitive x_prev)
  unfolding section_of
  zero_everywhere p h = rw (p, h)

  -- without positivity the mode is the original's
  pub without_positivity : force_positive ≡ false → safely_made ≡ original
  unfolding section_of by_steps shaped first_region mixed made min_kind convex_part second third fourth fourth_min
  without_positivity h = rw h

  -- the choice in the safe mode, with its Min parabola left open
  as_safe : by_steps (with_split split.Safe method) period
      ≡ answered (grad.new f_prev prev_primitive x_prev x_next f_next) (quadratic.new x_prev x_next f_prev f_next f_average prev_primitive)
      (convex_part (with_split split.Safe method) period P N) quadraticity
      (flat P N) (lt quadraticity one) (in_first P N) (lt zero quadraticity) (min_kind method P N) force_positive (min_of period split.Safe)
  unfolding answered by_steps shaped first_region mixed made min_kind convex_part second third fourth fourth_min
  as_safe = refl

  pub safely_within : le zero (x_next ⊖ x_prev) ≡ true → within (x_next ⊖ x_prev) safely_made ≡ true
  unfolding section_of within
  safely_within h =
      of_both (λ (s : Section). within (x_next ⊖ x_prev) s ≡ true) (at_zero (with_split split.Safe method) period) _ _ refl
      (rw as_safe (answered_within _ _ _ _ (x_next ⊖ x_prev) _ _ _ _ _ _ (min_of period split.Safe) min_within_lem))
    where
      min_within_lem : min_within (x_next ⊖ x_prev) (min_of period split.Safe) ≡ true
      min_within_lem = split_within (x_next ⊖ x_prev) (min_of period split.Safe) (λ k. not_stretched x_prev x_next f_prev f_next f_average prev_primitive k h)

-- in any mode but the original's
pub in_mode_lem : (mode : Split) (method : ConvexMonotone) → method.split ≡ mode → method ≡ with_split mode method
in_mode_lem mode method h = ap (λ (m : Split). with_split m method) h

module _ (method : ConvexMonotone) (period : Period) (other : method.split ≡ split.Original → ⊥) where
  abbrev length : Float
  length = period.x_next ⊖ period.x_prev

  pub section_within : le zero length ≡ true → within length (section_of method period) ≡ true
  section_within h = by method.split refl
    where
      by : (mode : Split) → method.split ≡ mode → within length (section_of method period) ≡ true
      by split.Original e = absurd (other e)
      by split.Careful e = ap (λ (m : ConvexMonotone). within length (section_of m period)) (in_mode_lem split.Careful method e) ∙ carefully_within method period h
      by split.Safe e = ap (λ (m : ConvexMonotone). within length (section_of m period)) (in_mode_lem split.Safe method e) ∙ safely_within method period h

-- of `section_of` itself, between rising knots
pub returned_within : Follows section-of.Post (λ κ a r s.
    let (method, (period, rest)) = a in
    (method.split ≡ split.Original → ⊥) → finite period.x_prev ≡ true → finite period.x_next ≡ true → lt period.x_prev period.x_next ≡ true →
    within (period.x_next ⊖ period.x_prev) r ≡ true)
returned_within κ a r s allowed other left right rise =
    let (method, (period, rest)) = a in
    rw allowed (section_within method period other (length_from_zero period.x_prev period.x_next left right rise))

-- In the safe mode every price of a period is finite, for prices and lengths of any size that a market has.
use Prim.Native.Nat.{suc, zero}
use mathlib.Core.Bool.{Bool, true, false, ◌&&◌}
use mathlib.Core.Path.{◌≡◌, refl}
use lib.IntN.{pos, negsuc}
use lib.Dec.{lit≤}
use lib.Ieee.{Float, nan, inf, fin, binary64, le, lt, eq, of_bits}
use lib.Ieee.Fits.{sub-fits}
use Rattle.numbers.specs.Words.{◌⊕◌, ◌⊖◌, ◌⊗◌, ◌⊘◌, one, two, three, finite}
use Rattle.numbers.specs.Words as words
use Rattle.numbers.specs.OneOutcome.{Follows}
use Rattle.numbers.proofs.Ways.{never, of_both, of_each}
use Rattle.numbers.proofs.Every.{and_split}
use Rattle.numbers.proofs.Signs.{zero_is_zero}
use Rattle.numbers.proofs.AtMost.{le_on}
use Rattle.numbers.proofs.Bounds.{Within, Low, within_finite, wider, sum_within, difference_within, product_within, quotient_within}
use Rattle.numbers.proofs.Low.{Above, low_up, low_above}
use Rattle.numbers.proofs.Ratios.{zero_within, one_within, between_within, unit_within, below_from_zero, inside_finite, reach, place}
use Rattle.quadratic.proofs.Finite as quadratic-finite
use Rattle.convex.proofs.Finite as convex-finite
use Rattle.convex.proofs.Finite.{Inner}
use Rattle.section.specs.ConstantGrad as grad
use Rattle.section.specs.Combination as combination
use Rattle.section.specs.QuadraticPart as part
use Rattle.section.specs.ConvexMonotonePart as convex
use Rattle.section.specs.Section as section-spec
use Rattle.section.specs.declared.quadratic_part.QuadraticPart.{QuadraticPart}
use Rattle.section.specs.declared.quadratic_part.QuadraticPart.TheVariants as part-kind
use Rattle.section.specs.declared.convex_monotone_part.ConvexMonotonePart.{ConvexMonotonePart}
use Rattle.section.specs.declared.convex_monotone_part.ConvexMonotonePart.TheVariants as convex-kind
use Rattle.section.specs.declared.section.Section.{Section}
use Rattle.section.specs.declared.section.Section.TheVariants as section
use Rattle.table.specs.Method.{is_safe, safely}
use Rattle.table.specs.declared.method.ConvexMonotone.{ConvexMonotone}
use Rattle.table.specs.declared.method.Split.{Split}
use Rattle.table.specs.declared.method.Split.TheVariants as split
use Rattle.choice.specs.declared.period.Period.{Period}
use Rattle.choice.specs.Regions.{flat, in_first, in_second, in_third}
use Rattle.choice.specs.QuadraticPart.{made, min_kind, quadratic_part}
use Rattle.choice.specs.ConvexPart.{fourth, fourth_min, second, third, clamped, convex_part, b2, b3}
use Rattle.choice.specs.Choice.{first_region, mixed, shaped, by_steps, section_of, at_zero}
use Rattle.choice.proofs.Etas.{almost_one, cut_inner, b2_inner, b3_inner, second_eta, third_eta, fourth_number}
use Rattle.choice.proofs.section_of.Reads as section-of

-- 2 ^ 152 and 2 ^ 150, about 5.7e45 and 1.4e45, and 2 ^ -400 and 2 ^ 400
abbrev pub highest_node : Float
highest_node = of_bits binary64 0x4970_0000_0000_0000

abbrev pub highest_average : Float
highest_average = of_bits binary64 0x4950_0000_0000_0000

abbrev pub shortest : Float
shortest = of_bits binary64 0x26f0_0000_0000_0000

abbrev pub longest : Float
longest = of_bits binary64 0x58f0_0000_0000_0000

-- settings in the safe mode
pub record Safe (method : ConvexMonotone) : Type 0 where
  pub safe : safely method ≡ true
  pub quadraticity_low : le words.zero method.quadraticity ≡ true
  pub quadraticity_high : le method.quadraticity one ≡ true
  pub monotonicity_low : le words.zero method.monotonicity ≡ true
  pub monotonicity_high : le method.monotonicity almost_one ≡ true

-- a period between two knots, with prices from 0 on
pub record Ordinary (period : Period) : Type 0 where
  pub left : finite period.x_prev ≡ true
  pub right : finite period.x_next ≡ true
  pub long : le shortest (period.x_next ⊖ period.x_prev) ≡ true
  pub short : le (period.x_next ⊖ period.x_prev) longest ≡ true
  pub prev_low : le words.zero period.f_prev ≡ true
  pub prev_high : le period.f_prev highest_node ≡ true
  pub next_low : le words.zero period.f_next ≡ true
  pub next_high : le period.f_next highest_node ≡ true
  pub average_low : le words.zero period.f_average ≡ true
  pub average_high : le period.f_average highest_average ≡ true

node_within : Within 152 highest_node
unfolding of_bits
node_within = record { sign = false; part = 1; power = pos 152; is = refl; size = lit≤ tt }

pub average_within : Within 150 highest_average
unfolding of_bits
average_within = record { sign = false; part = 1; power = pos 150; is = refl; size = lit≤ tt }

longest_within : Within 400 longest
unfolding of_bits
longest_within = record { sign = false; part = 1; power = pos 400; is = refl; size = lit≤ tt }

pub shortest_low : Low 400 shortest
unfolding of_bits
shortest_low = record { part = 1; power = negsuc 399; is = refl; size = lit≤ tt }

-- the length of a period
pub length_within : (d : Float) → le shortest d ≡ true → le d longest ≡ true → Within 400 d
unfolding le of_bits
length_within d h l = between_within d longest_within (le_on words.zero shortest d refl h) l

pub length_from : (d : Float) → le shortest d ≡ true → le d longest ≡ true → Low 400 d
length_from d h l = low_up d shortest_low h (within_finite (length_within d h l))

-- an average at or above 0 that does not equal 0
not_zero : (y : Float) → finite y ≡ true → le words.zero y ≡ true → eq y words.zero ≡ false → Above y
unfolding finite
not_zero nan f h l = never f refl
not_zero (inf s) f h l = never f refl
not_zero (fin s zero e) f h l = never (zero_is_zero s e) l
not_zero (fin true (suc m) e) f h l = never h (below_from_zero m e)
not_zero (fin false (suc m) e) f h l = record { part = m; power = e; is = refl }

safe_mode : (s : Split) → is_safe s ≡ true → s ≡ split.Safe
safe_mode split.Original h = never h refl
safe_mode split.Careful h = never h refl
safe_mode split.Safe h = refl

-- a single part is worth what it is worth as a part
quadratic_alone : (k : QuadraticPart) (x : Float) → section-spec.value (part.alone k) x ≡ part.value k x
unfolding section-spec.value part.value
quadratic_alone (part-kind.Quadratic s) x = refl
quadratic_alone (part-kind.QuadraticMin s) x = refl

convex_alone : (k : ConvexMonotonePart) (x : Float) → section-spec.value (convex.alone k) x ≡ convex.value k x
unfolding section-spec.value convex.value
convex_alone (convex-kind.ConvexMonotone2 s) x = refl
convex_alone (convex-kind.ConvexMonotone3 s) x = refl
convex_alone (convex-kind.ConvexMonotone4 s) x = refl
convex_alone (convex-kind.ConvexMonotone4Min s) x = refl

module _ (method : ConvexMonotone) (period : Period) (x : Float) (set : Safe method) (given : Ordinary period)
    (after : le period.x_prev x ≡ true) (before : le x period.x_next ≡ true) where
  open method use {quadraticity, force_positive}
  open period use {x_prev, x_next, f_prev, f_next, f_average, prev_primitive}

  abbrev P : Float
  P = f_prev ⊖ f_average

  abbrev N : Float
  N = f_next ⊖ f_average

  abbrev length : Float
  length = x_next ⊖ x_prev

  mode_safe : is_safe method.split && force_positive ≡ true
  mode_safe = set.safe

  is_safe_lem : method.split ≡ split.Safe
  is_safe_lem = safe_mode method.split (and_split (is_safe method.split) force_positive mode_safe).0

  positive : force_positive ≡ true
  positive = (and_split (is_safe method.split) force_positive mode_safe).1

  w_prev : Within 152 f_prev
  w_prev = between_within f_prev node_within given.prev_low given.prev_high

  w_next : Within 152 f_next
  w_next = between_within f_next node_within given.next_low given.next_high

  w_average : Within 150 f_average
  w_average = between_within f_average average_within given.average_low given.average_high

  w-P : Within 153 P
  w-P = difference_within w_prev w_average tt

  w-N : Within 153 N
  w-N = difference_within w_next w_average tt

  w_length : Within 400 length
  w_length = length_within length given.long given.short

  length_low : Low 400 length
  length_low = length_from length given.long given.short

  x_finite : finite x ≡ true
  x_finite = inside_finite x_prev x x_next given.left given.right after before

  at : Within 0 ((x ⊖ x_prev) ⊘ length)
  at = place x_prev x_next x given.left x_finite after before (within_finite w_length) (low_above length_low)

  -- ---- the kinds
  straight : Within 1000 (grad.value (grad.new f_prev prev_primitive x_prev x_next f_next) x)
  straight =
      let r = reach x_prev x_next x given.left x_finite after before in
      let w = between_within (x ⊖ x_prev) w_length r.0 r.1 in
      wider (sum_within w_prev (product_within w (quotient_within (difference_within w_next w_prev tt) length_low tt) tt) tt) tt

  module _ (traded : eq f_average words.zero ≡ false) where
    above_zero : Above f_average
    above_zero = not_zero f_average (within_finite w_average) given.average_low traded

    parabola : (min : Bool) → Within 1000 (part.value (made period method.split min) x)
    unfolding made part.value
    parabola min = rw is_safe_lem (by min)
      where
        by : (min : Bool) → Within 1000 (part.value (made period split.Safe min) x)
        by true = quadratic-finite.safe x_prev x_next f_prev f_next f_average prev_primitive x w_prev w_next given.prev_low given.next_low w_average above_zero at
        by false = quadratic-finite.plain x_prev x_next f_prev f_next f_average prev_primitive x w_prev w_next w_average at

    module _ (bent : flat P N ≡ false) where
      abbrev Priced : ConvexMonotonePart → Type 0
      Priced k = Within 1000 (convex.value k x)

      fourth_priced : {eta : Float} → Inner eta → Priced (fourth method period P N eta)
      unfolding fourth fourth_min convex.value
      fourth_priced inner = rw (set.safe, positive) (convex-finite.safe x_prev x_next f_average prev_primitive x w_average at w-P w-N inner)

      second_priced : in_second P N ≡ true → Priced (second method period P N)
      unfolding second convex.value
      second_priced region =
          let eta = (N ⊕ two ⊗ P) ⊘ (N ⊖ P) in
          of_each Priced (lt eta (b2 method)) _ _
          (λ h.
          let e = second_eta method set.monotonicity_low set.monotonicity_high P N w-P w-N (sub-fits binary64 f_next f_average) region h in
          convex-finite.second x_prev x_next P N f_average eta prev_primitive x w-P w-N w_average at e.0 e.1)
          (λ h. fourth_priced (b2_inner method set.monotonicity_low set.monotonicity_high))

      third_priced : in_third P N ≡ true → Priced (third method period P N)
      unfolding third convex.value
      third_priced region =
          let eta = N ⊘ (N ⊖ P) ⊗ three in
          of_each Priced (lt (b3 method) eta) _ _
          (λ h.
          let e = third_eta method set.monotonicity_low set.monotonicity_high P N w-P w-N (sub-fits binary64 f_next f_average) region h in
          convex-finite.third x_prev x_next P N f_average eta prev_primitive x w-P w-N w_average at e.0 e.1)
          (λ h. fourth_priced (b3_inner method set.monotonicity_low set.monotonicity_high))

      clamped_priced : Priced (clamped method period P N)
      clamped_priced =
          fourth_priced
          (cut_inner method set.monotonicity_low set.monotonicity_high (N ⊘ (P ⊕ N)) (fourth_number P N w-P w-N (sub-fits binary64 f_prev f_average) bent))

      convex_priced : Priced (convex_part method period P N)
      unfolding convex_part
      convex_priced =
          of_each Priced (in_second P N) _ _ second_priced (λ h. of_each Priced (in_third P N) _ _ third_priced (λ k. clamped_priced))

      -- ---- the choice
      abbrev Worth : Section → Type 0
      Worth s = Within 1002 (section-spec.value s x)

      parabola_alone : (min : Bool) → Worth (part.alone (made period method.split min))
      parabola_alone min = rw (quadratic_alone (made period method.split min) x) (wider (parabola min) tt)

      both_parts : Worth (section.Combination (combination.new (quadratic_part method period P N) (convex_part method period P N) quadraticity))
      unfolding section-spec.value
      both_parts =
          let w = unit_within quadraticity set.quadraticity_low set.quadraticity_high in
          sum_within (product_within w (parabola (min_kind method P N)) tt) (product_within (difference_within one_within w tt) convex_priced tt) tt

      shaped_worth : Worth (shaped method period P N)
      unfolding shaped first_region mixed
      shaped_worth =
          of_both Worth (lt quadraticity one) _ _
          (of_both Worth (in_first P N) _ _
          (of_both (λ (k : QuadraticPart). Worth (part.alone k)) (lt words.zero quadraticity) _ _ (parabola_alone (min_kind method P N)) (parabola_alone force_positive))
          (of_both Worth (lt words.zero quadraticity) _ _ both_parts (rw (convex_alone (convex_part method period P N) x) (wider convex_priced tt))))
          (parabola_alone (min_kind method P N))

  worth : Within 1002 (section-spec.value (section_of method period) x)
  unfolding section_of by_steps section-spec.value
  worth =
      let W : Section → Type 0 = λ s. Within 1002 (section-spec.value s x) in
      of_each W (at_zero method period) _ _ (λ h. wider zero_within tt)
      (λ h. of_each W (flat P N) _ _ (λ k. wider straight tt) (shaped_worth (traded h)))
    where
      traded : safely method && eq f_average words.zero ≡ false → eq f_average words.zero ≡ false
      traded h = rw set.safe at h

  pub every_price_finite : finite (section-spec.value (section_of method period) x) ≡ true
  every_price_finite = within_finite worth

-- ---- Of `section_of` itself.
pub returned_finite : Follows section-of.Post (λ κ a r s.
    let (method, (period, rest)) = a in
    Safe method → Ordinary period → (x : Float) → le period.x_prev x ≡ true → le x period.x_next ≡ true → finite (section-spec.value r x) ≡ true)
returned_finite κ a r s allowed set given x after before =
    let (method, (period, rest)) = a in
    rw allowed (every_price_finite method period x set given after before)

-- 02, K1: at its own left knot a section that is not split, or split in the usual way, gives back the total that it was handed, in every mode, for a period of ordinary size.
use Prim.Native.Nat.{ℕ}
use mathlib.Core.Bool.{Bool, true, false}
use mathlib.Core.Path.{◌≡◌}
use lib.Ieee.{Float, binary64, le, lt}
use lib.Ieee.Fits.{sub-fits}
use Rattle.numbers.specs.Words.{◌⊕◌, ◌⊖◌, ◌⊗◌, ◌⊘◌, zero, one, two, three, finite}
use Rattle.numbers.proofs.Ways.{of_both, of_each, or_none}
use Rattle.numbers.proofs.Bounds.{Within, Low, sum_within, difference_within, product_within, quotient_within}
use Rattle.numbers.proofs.Ratios.{zero_within, half_within, self_less}
use Rattle.numbers.proofs.Zeros.{Zero, zero_zero, zero_small, zero_product, quotient_zero}
use Rattle.numbers.proofs.Totals.{Total, AtLeft, total_stays}
use Rattle.quadratic.specs.QuadraticMin as quadmin
use Rattle.convex.proofs.Finite.{Inner}
use Rattle.convex.proofs.Starts as convex_starts
use Rattle.quadratic.proofs.Starts as quadratic-starts
use Rattle.section.specs.EverywhereConstant as constant
use Rattle.section.specs.ConstantGrad as grad
use Rattle.section.specs.Combination as combination
use Rattle.section.specs.QuadraticPart as part
use Rattle.section.specs.ConvexMonotonePart as convex
use Rattle.section.specs.Section as section-spec
use Rattle.section.specs.declared.quadratic_part.QuadraticPart.{QuadraticPart}
use Rattle.section.specs.declared.quadratic_part.QuadraticPart.TheVariants as part-kind
use Rattle.section.specs.declared.convex_monotone_part.ConvexMonotonePart.{ConvexMonotonePart}
use Rattle.section.specs.declared.convex_monotone_part.ConvexMonotonePart.TheVariants as convex-kind
use Rattle.section.specs.declared.section.Section.{Section}
use Rattle.section.specs.declared.section.Section.TheVariants as section
use Rattle.table.specs.Method.{safely}
use Rattle.table.specs.declared.method.ConvexMonotone.{ConvexMonotone}
use Rattle.table.specs.declared.method.Split.{Split}
use Rattle.table.specs.declared.method.Split.TheVariants as split
use Rattle.choice.specs.declared.period.Period.{Period}
use Rattle.choice.specs.Regions.{flat, in_first, in_second, in_third}
use Rattle.choice.specs.QuadraticPart.{min_of, made, min_kind, quadratic_part}
use Rattle.choice.specs.ConvexPart.{fourth, fourth_min, second, third, clamped, convex_part, b2, b3}
use Rattle.choice.specs.Choice.{first_region, mixed, shaped, by_steps, section_of, at_zero}
use Rattle.choice.specs.Starts.{quadratic_unusual, convex_unusual, unusual_in, start_of}
use Rattle.choice.proofs.Etas.{almost_one, cut_inner, b2_inner, b3_inner, second_unit, third_eta, fourth_number}

-- a period of ordinary size: prices of either sign, and a total that may be anything but -0.0
pub record Modest (period : Period) : Type 0 where
  pub left : finite period.x_prev ≡ true
  pub length : Within 400 (period.x_next ⊖ period.x_prev)
  pub long : Low 400 (period.x_next ⊖ period.x_prev)
  pub prev : Within 152 period.f_prev
  pub next : Within 152 period.f_next
  pub average : Within 150 period.f_average
  pub total : Total period.prev_primitive

-- what is said of a part and of a section, at the knot x with the total before it
module _ (total x : Float) where
  abbrev QuadraticGives : QuadraticPart → Type 0
  QuadraticGives k = quadratic_unusual x k ≡ false → part.primitive k x ≡ total

  abbrev ConvexGives : ConvexMonotonePart → Type 0
  ConvexGives k = convex_unusual x k ≡ false → convex.primitive k x ≡ total

  abbrev pub Gives : Section → Type 0
  Gives s = unusual_in x s ≡ false → section-spec.primitive s x ≡ start_of total s

  quadratic_alone : (k : QuadraticPart) → QuadraticGives k → Gives (part.alone k)
  unfolding section-spec.primitive part.primitive
  quadratic_alone (part-kind.Quadratic s) h = h
  quadratic_alone (part-kind.QuadraticMin s) h = h

  convex_alone : (k : ConvexMonotonePart) → ConvexGives k → Gives (convex.alone k)
  unfolding section-spec.primitive convex.primitive
  convex_alone (convex-kind.ConvexMonotone2 s) h = h
  convex_alone (convex-kind.ConvexMonotone3 s) h = h
  convex_alone (convex-kind.ConvexMonotone4 s) h = h
  convex_alone (convex-kind.ConvexMonotone4Min s) h = h

  both_parts : (p : QuadraticPart) (c : ConvexMonotonePart) (weight : Float) → QuadraticGives p → ConvexGives c → Gives (section.Combination (combination.new p c weight))
  unfolding section-spec.primitive
  both_parts p c weight f g h = let n = or_none (quadratic_unusual x p) (convex_unusual x c) h in rw (f n.0, g n.1)

-- a constant section, at its own knot
pub constant_gives : {k : ℕ} (value total x : Float) → Within k value → Total total → finite x ≡ true → Gives total x (section.EverywhereConstant (constant.new value total x))
unfolding section-spec.primitive
constant_gives value total x w kept f h = rw (self_less x f) (total_stays kept (zero_product zero_zero w))

module _ (method : ConvexMonotone) (period : Period) (from_zero : le zero method.monotonicity ≡ true) (below_one : le method.monotonicity almost_one ≡ true) (given : Modest period) where
  open method use {quadraticity, force_positive}
  open period use {x_prev, x_next, f_prev, f_next, f_average, prev_primitive}

  abbrev P : Float
  P = f_prev ⊖ f_average

  abbrev N : Float
  N = f_next ⊖ f_average

  w-P : Within 153 P
  w-P = difference_within given.prev given.average tt

  w-N : Within 153 N
  w-N = difference_within given.next given.average tt

  nowhere : Zero (x_prev ⊖ x_prev)
  nowhere = rw (self_less x_prev given.left) zero_zero

  here : AtLeft x_prev x_next prev_primitive
  here = record { length = given.length; place = quotient_zero nowhere given.long; total = given.total }

  abbrev Given : Section → Type 0
  Given s = Gives prev_primitive x_prev s

  -- ---- the kinds
  straight_gives : Given (section.ConstantGrad (grad.new f_prev prev_primitive x_prev x_next f_next))
  unfolding section-spec.primitive
  straight_gives h =
      let slope = quotient_within (difference_within given.next given.prev tt) given.long tt in
      let rest = sum_within given.prev (product_within (product_within half_within (zero_small nowhere) tt) slope tt) tt in
      total_stays given.total (zero_product nowhere rest)

  min_gives : (mode : Split) → quadmin.unusual (min_of period mode) x_prev ≡ false → part.primitive (part-kind.QuadraticMin (min_of period mode)) x_prev ≡ prev_primitive
  unfolding part.primitive
  min_gives split.Original = quadratic-starts.new_starts given.average here given.prev given.next
  min_gives split.Careful = quadratic-starts.careful_starts given.average here given.prev given.next
  min_gives split.Safe = quadratic-starts.safe_starts given.average here given.prev given.next

  parabola_gives : (min : Bool) → QuadraticGives prev_primitive x_prev (made period method.split min)
  unfolding made part.primitive
  parabola_gives min =
      of_both (QuadraticGives prev_primitive x_prev) min _ _ (min_gives method.split)
      (λ h. quadratic-starts.plain_starts given.average here given.prev given.next)

  abbrev ConvexGiven : ConvexMonotonePart → Type 0
  ConvexGiven k = ConvexGives prev_primitive x_prev k

  fourth_gives : {eta : Float} → Inner eta → ConvexGiven (fourth method period P N eta)
  unfolding fourth fourth_min convex.primitive
  fourth_gives inner =
      of_both ConvexGiven force_positive _ _
      (convex_starts.min_starts given.average here w-P w-N inner (safely method))
      (λ h. convex_starts.fourth_starts given.average here w-P w-N inner)

  second_gives : in_second P N ≡ true → ConvexGiven (second method period P N)
  unfolding second convex.primitive
  second_gives region =
      let eta = (N ⊕ two ⊗ P) ⊘ (N ⊖ P) in
      of_both ConvexGiven (lt eta (b2 method)) _ _
      (λ h.
      convex_starts.second_starts given.average here N eta w-P
      (second_unit method from_zero below_one P N w-P w-N (sub-fits binary64 f_next f_average) region).0)
      (fourth_gives (b2_inner method from_zero below_one))

  third_gives : in_third P N ≡ true → ConvexGiven (third method period P N)
  unfolding third convex.primitive
  third_gives region =
      let eta = N ⊘ (N ⊖ P) ⊗ three in
      of_each ConvexGiven (lt (b3 method) eta) _ _
      (λ k h.
      let e = third_eta method from_zero below_one P N w-P w-N (sub-fits binary64 f_next f_average) region k in
      convex_starts.third_starts given.average here w-P w-N e.0 e.1)
      (λ k. fourth_gives (b3_inner method from_zero below_one))

  -- ---- the choice
  module _ (bent : flat P N ≡ false) where
    clamped_gives : ConvexGiven (clamped method period P N)
    clamped_gives =
        fourth_gives (cut_inner method from_zero below_one (N ⊘ (P ⊕ N)) (fourth_number P N w-P w-N (sub-fits binary64 f_prev f_average) bent))

    convex_gives : ConvexGiven (convex_part method period P N)
    unfolding convex_part
    convex_gives = of_each ConvexGiven (in_second P N) _ _ second_gives (λ h. of_each ConvexGiven (in_third P N) _ _ third_gives (λ k. clamped_gives))

    alone_gives : (min : Bool) → Given (part.alone (made period method.split min))
    alone_gives min = quadratic_alone prev_primitive x_prev (made period method.split min) (parabola_gives min)

    shaped_gives : Given (shaped method period P N)
    unfolding shaped first_region mixed
    shaped_gives =
        of_both Given (lt quadraticity one) _ _
        (of_both Given (in_first P N) _ _
        (of_both (λ (k : QuadraticPart). Given (part.alone k)) (lt zero quadraticity) _ _ (alone_gives (min_kind method P N)) (alone_gives force_positive))
        (of_both Given (lt zero quadraticity) _ _
        (both_parts prev_primitive x_prev (quadratic_part method period P N) (convex_part method period P N) quadraticity (parabola_gives (min_kind method P N)) convex_gives)
        (convex_alone prev_primitive x_prev (convex_part method period P N) convex_gives)))
        (alone_gives (min_kind method P N))

  pub section_gives : Given (section_of method period)
  unfolding section_of by_steps
  section_gives =
      of_both Given (at_zero method period) _ _ (constant_gives zero prev_primitive x_prev zero_within given.total given.left)
      (of_each Given (flat P N) _ _ (λ k. straight_gives) shaped_gives)

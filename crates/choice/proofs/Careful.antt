-- 02, K3: a section in careful mode is the original's, or the original's with its Min parabola not split; none that is split is longer than its period.
use mathlib.Core.Bool.{Bool, true, false, cond}
use mathlib.Core.Logic.{◌⊎◌, inl, inr, ⊎_elim}
use mathlib.Core.Path.{◌≡◌, refl, sym, ap, ◌∙◌}
use lib.Ieee.{Float, le, lt}
use Rattle.numbers.specs.Words.{◌⊖◌, ◌⊘◌, zero, one}
use Rattle.numbers.specs.OneOutcome.{Follows}
use Rattle.quadratic.specs.Quadratic as quadratic
use Rattle.quadratic.specs.QuadraticMin as quadmin
use Rattle.quadratic.specs.declared.quadratic.Quadratic.{Quadratic}
use Rattle.quadratic.specs.declared.quadratic_min.QuadraticMin.{QuadraticMin}
use Rattle.quadratic.proofs.Careful as quadratic-careful
use Rattle.quadratic.proofs.Careful.{either_record}
use Rattle.quadratic.proofs.InPeriod.{not_stretched}
use Rattle.section.specs.ConstantGrad as grad
use Rattle.section.specs.Combination as combination
use Rattle.section.specs.QuadraticPart as part
use Rattle.section.specs.ConvexMonotonePart as convex
use Rattle.section.specs.declared.constant_grad.ConstantGrad.{ConstantGrad}
use Rattle.section.specs.declared.quadratic_part.QuadraticPart.{QuadraticPart}
use Rattle.section.specs.declared.quadratic_part.QuadraticPart.TheVariants as part-kind
use Rattle.section.specs.declared.convex_monotone_part.ConvexMonotonePart.{ConvexMonotonePart}
use Rattle.section.specs.declared.convex_monotone_part.ConvexMonotonePart.TheVariants as convex-kind
use Rattle.section.specs.declared.section.Section.{Section}
use Rattle.section.specs.declared.section.Section.TheVariants as section
use Rattle.table.specs.Method.{with_split}
use Rattle.table.specs.declared.method.ConvexMonotone.{ConvexMonotone}
use Rattle.table.specs.declared.method.Split.{Split}
use Rattle.table.specs.declared.method.Split.TheVariants as split
use Rattle.choice.specs.declared.period.Period.{Period}
use Rattle.choice.specs.Regions.{flat, in_first}
use Rattle.choice.specs.QuadraticPart.{min_of, made, min_kind}
use Rattle.choice.specs.ConvexPart.{fourth, fourth_min, second, third, convex_part}
use Rattle.choice.specs.Choice.{first_region, mixed, shaped, by_steps, section_of}
use Rattle.choice.specs.Careful.{whole_min, whole_part, whole_section, min_within, part_within, within}
use Rattle.choice.proofs.section_of.Reads as section-of

-- a claim of split parabolas, as a test of any
if_split : (b t : Bool) → (b ≡ true → t ≡ true) → cond b t true ≡ true
if_split true t h = h refl
if_split false t h = refl

pub split_within : (length : Float) (s : QuadraticMin) → (s.split_region ≡ true → le s.x_scaling length ≡ true) → min_within length s ≡ true
unfolding min_within
split_within length s h = if_split s.split_region (le s.x_scaling length) h

-- The choice with its Min parabola left open: the tests in their order, and what each part would be.
module _ (line : ConstantGrad) (plain : Quadratic) (other : ConvexMonotonePart) (weight : Float) where
  abbrev part_of : Bool → QuadraticMin → QuadraticPart
  part_of kind s = cond kind (part-kind.QuadraticMin s) (part-kind.Quadratic plain)

  unfoldable pub answered : Bool → Bool → Bool → Bool → Bool → Bool → QuadraticMin → Section
  answered is-flat below first above kind positive s =
      cond is-flat (section.ConstantGrad line)
      (cond below
      (cond first (part.alone (cond above (part_of kind s) (part_of positive s)))
      (cond above (section.Combination (combination.new (part_of kind s) other weight)) (convex.alone other)))
      (part.alone (part_of kind s)))

  -- the same choice of the whole parabola
  answered_whole : (period : Period) (is-flat below first above kind positive : Bool) (s : QuadraticMin) →
      answered is-flat below first above kind positive (whole_min period) ≡ whole_section period (answered is-flat below first above kind positive s)
  unfolding answered whole_section whole_part
  answered_whole period true below first above kind positive s = refl
  answered_whole period false false first above true positive s = refl
  answered_whole period false false first above false positive s = refl
  answered_whole period false true true true true positive s = refl
  answered_whole period false true true true false positive s = refl
  answered_whole period false true true false kind true s = refl
  answered_whole period false true true false kind false s = refl
  answered_whole period false true false true true positive s = refl
  answered_whole period false true false true false positive s = refl
  answered_whole period false true false false kind positive s = convex_whole other
    where
      convex_whole : (c : ConvexMonotonePart) → convex.alone c ≡ whole_section period (convex.alone c)
      convex_whole (convex-kind.ConvexMonotone2 c) = refl
      convex_whole (convex-kind.ConvexMonotone3 c) = refl
      convex_whole (convex-kind.ConvexMonotone4 c) = refl
      convex_whole (convex-kind.ConvexMonotone4Min c) = refl

  -- what the choice makes of a parabola is no longer than that
  pub answered_within : (length : Float) (is-flat below first above kind positive : Bool) (s : QuadraticMin) → min_within length s ≡ true →
      within length (answered is-flat below first above kind positive s) ≡ true
  unfolding answered within part_within
  answered_within length true below first above kind positive s h = refl
  answered_within length false false first above true positive s h = h
  answered_within length false false first above false positive s h = refl
  answered_within length false true true true true positive s h = h
  answered_within length false true true true false positive s h = refl
  answered_within length false true true false kind true s h = h
  answered_within length false true true false kind false s h = refl
  answered_within length false true false true true positive s h = h
  answered_within length false true false true false positive s h = refl
  answered_within length false true false false kind positive s h = convex_within other
    where
      convex_within : (c : ConvexMonotonePart) → within length (convex.alone c) ≡ true
      convex_within (convex-kind.ConvexMonotone2 c) = refl
      convex_within (convex-kind.ConvexMonotone3 c) = refl
      convex_within (convex-kind.ConvexMonotone4 c) = refl
      convex_within (convex-kind.ConvexMonotone4Min c) = refl

module _ (method : ConvexMonotone) (period : Period) where
  open method use {quadraticity, force_positive}
  open period use {x_prev, x_next, f_prev, f_next, f_average, prev_primitive}

  abbrev P : Float
  P = f_prev ⊖ f_average

  abbrev N : Float
  N = f_next ⊖ f_average

  -- the choice of these settings and this period, in either of the two modes
  abbrev chosen : QuadraticMin → Section
  chosen s =
      answered (grad.new f_prev prev_primitive x_prev x_next f_next)
      (quadratic.new x_prev x_next f_prev f_next f_average prev_primitive)
      (convex_part (with_split split.Original method) period P N) quadraticity
      (flat P N) (lt quadraticity one) (in_first P N) (lt zero quadraticity) (min_kind method P N) force_positive s

  as_original : section_of (with_split split.Original method) period ≡ chosen (min_of period split.Original)
  unfolding answered section_of by_steps shaped first_region mixed made min_kind convex_part second third fourth fourth_min
  as_original = refl

  as_careful : section_of (with_split split.Careful method) period ≡ chosen (min_of period split.Careful)
  unfolding answered section_of by_steps shaped first_region mixed made min_kind convex_part second third fourth fourth_min
  as_careful = refl

  abbrev original : Section
  original = section_of (with_split split.Original method) period

  abbrev carefully : Section
  carefully = section_of (with_split split.Careful method) period

  -- the modes agree where the original does not split, and where its ratio is above 0 and at most 1
  pub agree_unsplit : quadmin.splits f_prev f_next f_average ≡ false → carefully ≡ original
  agree_unsplit h = as_careful ∙ ap chosen (quadratic-careful.agree_unsplit x_prev x_next f_prev f_next f_average prev_primitive h) ∙ sym as_original

  pub agree_in_period : quadmin.in_period (f_average ⊘ quadmin.av_root f_prev f_next) ≡ true → carefully ≡ original
  agree_in_period h = as_careful ∙ ap chosen (quadratic-careful.agree_in_period x_prev x_next f_prev f_next f_average prev_primitive h) ∙ sym as_original

  pub either_section : (carefully ≡ original) ⊎ (carefully ≡ whole_section period original)
  either_section =
      ⊎_elim
      (λ e. inl (as_careful ∙ ap chosen e ∙ sym as_original))
      (λ e. inr (as_careful ∙ ap chosen e ∙ answered_whole _ _ _ _ period _ _ _ _ _ _ (min_of period split.Original) ∙ ap (whole_section period) (sym as_original)))
      (either_record x_prev x_next f_prev f_next f_average prev_primitive)

  pub carefully_within : le zero (x_next ⊖ x_prev) ≡ true → within (x_next ⊖ x_prev) carefully ≡ true
  carefully_within h = rw as_careful (answered_within _ _ _ _ (x_next ⊖ x_prev) _ _ _ _ _ _ (min_of period split.Careful) min_within_lem)
    where
      min_within_lem : min_within (x_next ⊖ x_prev) (min_of period split.Careful) ≡ true
      min_within_lem = split_within (x_next ⊖ x_prev) (min_of period split.Careful) (λ k. not_stretched x_prev x_next f_prev f_next f_average prev_primitive k h)

-- ---- Of `section_of` itself, called in careful mode.
pub in_careful : (method : ConvexMonotone) → method.split ≡ split.Careful → method ≡ with_split split.Careful method
in_careful method h = ap (λ (mode : Split). with_split mode method) h

-- beside a call in the original's mode with the same numbers
pub returned_either : Follows section-of.Post (λ κ a r s.
    let (method, (period, rest)) = a in
    method.split ≡ split.Careful → (o : Section) → section-of.Post κ (with_split split.Original method, (period, rest)) o s → (r ≡ o) ⊎ (r ≡ whole_section period o))
returned_either κ a r s allowed mode o original-allowed =
    let (method, (period, rest)) = a in
    let is : r ≡ carefully method period = allowed ∙ ap (λ (m : ConvexMonotone). section_of m period) (in_careful method mode) in
    ⊎_elim
    (λ e. inl (is ∙ e ∙ sym original-allowed))
    (λ e. inr (is ∙ e ∙ ap (whole_section period) (sym original-allowed)))
    (either_section method period)

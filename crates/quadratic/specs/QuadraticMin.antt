-- 000, QuadraticMinHelper
use Rattle.std.specs.Prelude.{Bool, true, false, not, ◌&&◌, Float}
use Rattle.std.proofs.Math.Bool.{cond}
use Rattle.std.specs.Float.Ieee.{le, lt, neg}
use Rattle.numbers.specs.Words.{◌⊕◌, ◌⊖◌, ◌⊗◌, ◌⊘◌, zero, one, two, three, four, twenty_four, thirty_six, narrow, ordinary_ratio}
use Rattle.root.specs.Root.{root}
use Rattle.quadratic.specs.Parabola.{a_of, b_of, under}
use Rattle.quadratic.specs.declared.quadratic_min.QuadraticMin.{QuadraticMin}
use Rattle.quadratic.specs.declared.quadratic_min.Rule.{Rule}
use Rattle.quadratic.specs.declared.quadratic_min.Rule.TheVariants.{Original, Careful, Safe}

module _ (f_prev f_next : Float) where
  abbrev pub b_av : Float
  b_av = neg twenty_four ⊗ (f_prev ⊕ f_next)

  abbrev pub d_av : Float
  d_av =
      let c_av = four ⊗ (f_prev ⊗ f_prev ⊕ f_prev ⊗ f_next ⊕ f_next ⊗ f_next) in
      b_av ⊗ b_av ⊖ four ⊗ thirty_six ⊗ c_av

  -- the lower of the two averages at which a parabola with these ends touches zero
  abbrev pub av_root : Float
  av_root = (neg b_av ⊖ root d_av) ⊘ (two ⊗ thirty_six)

  -- of the parabola with this average
  abbrev pub discriminant : Float → Float
  discriminant f_average =
      let a = a_of f_prev f_next f_average in
      let b = b_of f_prev f_next f_average in
      b ⊗ b ⊖ four ⊗ a ⊗ f_prev

  -- whether that parabola has two zeros, in the period or outside it, and whether one with these ends can touch zero
  unfoldable pub splits : Float → Bool
  splits f_average = lt zero (discriminant f_average) && le zero d_av

  -- Our own: d_av is 576 times the product of the ends in exact arithmetic, so ends at or above 0 can always touch zero. What is too large for a float is no
  -- reason not to look.
  unfoldable pub splits_safely : Float → Bool
  splits_safely f_average = not (le (discriminant f_average) zero) && (le zero f_prev && le zero f_next)

  -- av_root, with that product in place of d_av
  abbrev pub touching : Float
  touching = (f_prev ⊕ f_next ⊖ root (f_prev ⊗ f_next)) ⊘ three

-- 02, K3: what the careful split asks of the ratio; a NaN is not above 0
unfoldable pub in_period : Float → Bool
in_period x_ratio = lt zero x_ratio && le x_ratio one

-- our own: the same, and no shape that is squeezed to next to nothing
unfoldable pub in_sight : Float → Bool
in_sight x_ratio = lt narrow x_ratio && le x_ratio one

module _ (x_prev x_next f_prev f_next f_average prev_primitive : Float) where
  -- the parabola as it is, not split
  abbrev pub unsplit : QuadraticMin
  unsplit = record {
    split_region = false;
    x1 = x_prev;
    x2 = zero;
    x3 = zero;
    x4 = x_next;
    a = a_of f_prev f_next f_average;
    b = b_of f_prev f_next f_average;
    c = f_prev;
    primitive1 = prev_primitive;
    primitive2 = zero;
    f_next = f_next;
    x_scaling = x_next ⊖ x_prev;
    x_ratio = one;
  }

  -- the parabola that touches zero at x_root, its length scaled by x_ratio
  unfoldable pub split : Float → QuadraticMin
  split av_root =
      let x_ratio = f_average ⊘ av_root in
      let x_scaling = (x_next ⊖ x_prev) ⊗ x_ratio in
      let a = a_of f_prev f_next av_root in
      let b = b_of f_prev f_next av_root in
      let x_root = neg b ⊘ (two ⊗ a) in
      record {
        split_region = true;
        x1 = x_prev;
        x2 = x_prev ⊕ x_ratio ⊗ (x_next ⊖ x_prev) ⊗ x_root;
        x3 = x_next ⊖ x_ratio ⊗ (x_next ⊖ x_prev) ⊗ (one ⊖ x_root);
        x4 = x_next;
        a = a;
        b = b;
        c = f_prev;
        primitive1 = prev_primitive;
        primitive2 = under prev_primitive x_scaling a b f_prev x_root;
        f_next = f_next;
        x_scaling = x_scaling;
        x_ratio = x_ratio;
      }

  unfoldable pub new : QuadraticMin
  new = cond (splits f_prev f_next f_average) (split (av_root f_prev f_next)) unsplit

  -- 02, K3: split only where both tests pass and the ratio is above 0 and at most 1
  unfoldable pub careful : QuadraticMin
  careful =
      let touching = av_root f_prev f_next in
      cond (splits f_prev f_next f_average && in_period (f_average ⊘ touching)) (split touching) unsplit

-- both ends at the average
abbrev pub level : Float → Float → Float → Float → QuadraticMin
level x_prev x_next f_average prev_primitive = unsplit x_prev x_next f_average f_average f_average prev_primitive

module _ (x_prev x_next f_prev f_next f_average prev_primitive : Float) where
  -- Our own: by the tests of exact arithmetic, and by the ratio. A parabola that would be squeezed to next to nothing is not split, and has both ends at
  -- the average.
  unfoldable pub safe : QuadraticMin
  safe =
      let ratio = f_average ⊘ touching f_prev f_next in
      let whole = unsplit x_prev x_next f_prev f_next f_average prev_primitive in
      cond (splits_safely f_prev f_next f_average)
      (cond (in_sight ratio)
      (split x_prev x_next f_prev f_next f_average prev_primitive (touching f_prev f_next))
      (cond (le ratio narrow) (level x_prev x_next f_average prev_primitive) whole))
      whole

-- Steps of the code: any of the three rules in one place.
abbrev pub ratio_passes : Rule → Float → Bool
ratio_passes Original ratio = true
ratio_passes Careful ratio = in_period ratio
ratio_passes Safe ratio = in_sight ratio

abbrev pub flattens : Rule → Float → Bool
flattens Original ratio = false
flattens Careful ratio = false
flattens Safe ratio = le ratio narrow

abbrev pub under_root : Rule → Float → Float → Float
under_root Original f_prev f_next = d_av f_prev f_next
under_root Careful f_prev f_next = d_av f_prev f_next
under_root Safe f_prev f_next = f_prev ⊗ f_next

abbrev pub turning : Rule → Float → Float → Float
turning Original f_prev f_next = av_root f_prev f_next
turning Careful f_prev f_next = av_root f_prev f_next
turning Safe f_prev f_next = touching f_prev f_next

abbrev pub passes : Rule → Float → Float → Float → Bool
passes Original f_prev f_next f_average = splits f_prev f_next f_average
passes Careful f_prev f_next f_average = splits f_prev f_next f_average
passes Safe f_prev f_next f_average = splits_safely f_prev f_next f_average

module _ (rule : Rule) (x_prev x_next f_prev f_next f_average prev_primitive : Float) where
  unfoldable pub split_at : QuadraticMin
  split_at =
      let ratio = f_average ⊘ turning rule f_prev f_next in
      let whole = unsplit x_prev x_next f_prev f_next f_average prev_primitive in
      cond (passes rule f_prev f_next f_average)
      (cond (ratio_passes rule ratio)
      (split x_prev x_next f_prev f_next f_average prev_primitive (turning rule f_prev f_next))
      (cond (flattens rule ratio) (level x_prev x_next f_average prev_primitive) whole))
      whole

module _ (s : QuadraticMin) where
  open s use {split_region, x1, x2, x3, x4, a, b, c, primitive1, primitive2, x_scaling, x_ratio}

  abbrev pub x_val : Float → Float
  x_val x = (x ⊖ x1) ⊘ (x4 ⊖ x1)

  -- the place in the parabola, before and after the zero stretch
  abbrev pub before : Float → Float
  before x = x_val x ⊘ x_ratio

  abbrev pub after : Float → Float
  after x = one ⊖ (one ⊖ x_val x) ⊘ x_ratio

  abbrev pub value_at : Float → Float
  value_at v = c ⊕ b ⊗ v ⊕ a ⊗ v ⊗ v

  abbrev pub primitive_at : Float → Float
  primitive_at v = under primitive1 x_scaling a b c v

  unfoldable pub value : Float → Float
  value x =
      cond split_region
      (cond (le x x2) (value_at (before x)) (cond (lt x x3) zero (value_at (after x))))
      (value_at (x_val x))

  unfoldable pub primitive : Float → Float
  primitive x =
      cond split_region
      (cond (lt x x2) (primitive_at (before x)) (cond (lt x x3) primitive2 (primitive_at (after x))))
      (primitive_at (x_val x))

  -- our own: split, but x does not lie before the zero stretch, or the ratio is not of ordinary size
  abbrev pub unusual : Float → Bool
  unusual x = split_region && not (lt x x2 && ordinary_ratio x_ratio)

abbrev pub f_next : QuadraticMin → Float
f_next s = s.f_next

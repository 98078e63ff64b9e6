-- The quadratic part by itself, in either of its two cases, or what is made of two parts.
use mathlib.Core.Bool.{Bool, true, false, cond}
use mathlib.Core.Path.{◌≡◌, refl, ap, ◌∙◌}
use lib.Ieee.{Float, lt}
use Rattle.numbers.specs.Words.{zero, one}
use Rattle.numbers.proofs.Ways.{never, returned}
use Rattle.section.specs.declared.section.Section.{Section}
use Rattle.section.specs.QuadraticPart as quadratic
use Rattle.table.specs.declared.method.ConvexMonotone.{ConvexMonotone}
use Rattle.table.specs.declared.method.Split.{Split}
use Rattle.choice.specs.declared.period.Period.{Period}
use Rattle.choice.specs.QuadraticPart.{made, min_kind, quadratic_part}
use Rattle.choice.specs.Regions.{in_first}
use Rattle.choice.specs.Steps.{first_kind, is_alone, alone_kind}
use Rattle.choice.specs.Choice.{shaped, first_region, mixed}
use Rattle.choice.proofs.case.Case.shaped.Goals as goal

-- one of two parts is the part of one of two kinds
either_made : (period : Period) (mode : Split) (b m n : Bool) → made period mode (cond b m n) ≡ cond b (made period mode m) (made period mode n)
either_made period mode true m n = refl
either_made period mode false m n = refl

first_made : (method : ConvexMonotone) (period : Period) (P N : Float) (k : Bool) (s : Section) → k ≡ first_kind method P N → s ≡ quadratic.alone (made period method.split k) →
    s ≡ quadratic.alone (first_region method period P N)
unfolding first_kind first_region
first_made method period P N k s e f = f ∙ ap (λ (j : Bool). quadratic.alone (made period method.split j)) e ∙ ap quadratic.alone (either_made period method.split (lt zero method.quadraticity) (min_kind method P N) method.force_positive)

-- which of the three it is
module _ (method : ConvexMonotone) (period : Period) (P N : Float) where
  alone_made : (k : Bool) (s : Section) → is_alone method P N ≡ true → k ≡ alone_kind method P N → s ≡ quadratic.alone (made period method.split k) → s ≡ shaped method period P N
  unfolding is_alone alone_kind shaped
  alone_made k s h e f = by (lt method.quadraticity one) (in_first P N) h e
    where
      by : (below first : Bool) → cond below first true ≡ true → k ≡ cond below (first_kind method P N) (min_kind method P N) →
          s ≡ cond below (cond first (quadratic.alone (first_region method period P N)) (mixed method period P N)) (quadratic.alone (quadratic_part method period P N))
      by true true g j = first_made method period P N k s j f
      by true false g j = never g refl
      by false first g j = f ∙ ap (λ (i : Bool). quadratic.alone (made period method.split i)) j

  two_made : (s : Section) → is_alone method P N ≡ false → s ≡ mixed method period P N → s ≡ shaped method period P N
  unfolding is_alone shaped
  two_made s h e = by (lt method.quadraticity one) (in_first P N) h
    where
      by : (below first : Bool) → cond below first true ≡ false →
          s ≡ cond below (cond first (quadratic.alone (first_region method period P N)) (mixed method period P N)) (quadratic.alone (quadratic_part method period P N))
      by true true g = never refl g
      by true false g = e
      by false first g = never refl g

pub returns-then-is_alone : goal.returns-then-is_alone
returns-then-is_alone c = alone_made _ _ _ _ _ _ (returned c.is_alone.ensures c.if-is_alone.true) c.alone_kind.ensures c.made_alone.ensures

pub returns : goal.returns
returns c = two_made _ _ _ _ _ (returned c.is_alone.ensures c.if-is_alone.false) c.mixed.ensures

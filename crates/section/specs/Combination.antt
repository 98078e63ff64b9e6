-- 000, ComboHelper
use Rattle.std.specs.Prelude.{Float}
use Rattle.numbers.specs.Words.{◌⊕◌, ◌⊖◌, ◌⊗◌, one}
use Rattle.section.specs.declared.quadratic_part.QuadraticPart.{QuadraticPart}
use Rattle.section.specs.declared.convex_monotone_part.ConvexMonotonePart.{ConvexMonotonePart}
use Rattle.section.specs.declared.combination.Combination.{Combination}
use Rattle.section.specs.QuadraticPart as part
use Rattle.section.specs.ConvexMonotonePart as other

abbrev pub new : QuadraticPart → ConvexMonotonePart → Float → Combination
new quadratic_helper conv_mono_helper quadraticity = record {
  quadraticity = quadraticity;
  quadratic_helper = quadratic_helper;
  conv_mono_helper = conv_mono_helper;
}

module _ (s : Combination) where
  open s use {quadraticity, quadratic_helper, conv_mono_helper}

  -- so much of the one, and what is left of 1.0 of the other
  abbrev pub weighted : Float → Float → Float
  weighted p q = quadraticity ⊗ p ⊕ (one ⊖ quadraticity) ⊗ q

  abbrev pub value : Float → Float
  value x = weighted (part.value quadratic_helper x) (other.value conv_mono_helper x)

  abbrev pub primitive : Float → Float
  primitive x = weighted (part.primitive quadratic_helper x) (other.primitive conv_mono_helper x)

  abbrev pub f_next : Float
  f_next = weighted (part.f_next quadratic_helper) (other.f_next conv_mono_helper)

-- A record's number, worked out from its parts' numbers, is that of the section that it holds.
use Prim.Native.Nat.{ℕ}
use mathlib.Core.Path.{◌≡◌, refl, ap, ◌∙◌}
use mathlib.Core.List.{List}
use lib.Ieee.{Float}
use Rattle.std.specs.Array.{IsFirstChunk}
use Rattle.std.specs.Prelude.{Option, Some, None}
use Rattle.numbers.specs.declared.Marked.{Marked}
use Rattle.record.proofs.Fields.{first_length, read_by_fields, read_by_kinds}
use Rattle.numbers.specs.Marks.{mark}
use Rattle.numbers.specs.Words.{◌⊕◌, ◌⊖◌, ◌⊗◌, one}
use Rattle.section.specs.declared.quadratic_part.QuadraticPart.{QuadraticPart}
use Rattle.section.specs.declared.quadratic_part.QuadraticPart.TheVariants as quadratic
use Rattle.section.specs.declared.convex_monotone_part.ConvexMonotonePart.{ConvexMonotonePart}
use Rattle.section.specs.declared.convex_monotone_part.ConvexMonotonePart.TheVariants as convex
use Rattle.section.specs.declared.section.Section.{Section}
use Rattle.section.specs.declared.section.Section.TheVariants as section
use Rattle.section.specs.Combination as combination
use Rattle.section.specs.QuadraticPart as quadratic_part
use Rattle.section.specs.ConvexMonotonePart as convex_part
use Rattle.section.specs.Section.{value, primitive}
use Rattle.record.specs.declared.reading.OtherFound.{OtherFound}
use Rattle.record.specs.declared.reading.OtherFound.TheVariants as maybe_other
use Rattle.record.specs.declared.number.Part.{Part}
use Rattle.record.specs.declared.tag.QuadraticKind.{QuadraticKind}
use Rattle.record.specs.declared.tag.OtherKind.{OtherKind}
use Rattle.numbers.specs.Sizes.{field_count}
use Rattle.record.specs.Tag.{quadratic_named, other_named}
use Rattle.record.specs.Reading.{slot, quadratic_from, other_from, joined, read_section}
use Rattle.record.specs.Number.{answer_in}
use Rattle.record.specs.Steps.{quadratic_number, other_number, together}

-- a combination's number is its parts' numbers, weighted
abbrev Weighed : (Section → Float) → QuadraticPart → ConvexMonotonePart → Float → Type 0
Weighed f p c w = w ⊗ f (quadratic_part.alone p) ⊕ (one ⊖ w) ⊗ f (convex_part.alone c) ≡ f (section.Combination (combination.new p c w))

abbrev pub Weighs : (Section → Float) → Type 0
Weighs f = (p : QuadraticPart) (c : ConvexMonotonePart) (w : Float) → Weighed f p c w

-- prices are weighed so, and totals
both_weigh : (q : Float) (p : QuadraticPart) (c : ConvexMonotonePart) (w : Float) → Weighed (λ s. value s q) p c w × Weighed (λ s. primitive s q) p c w
unfolding value quadratic_part.value convex_part.value primitive quadratic_part.primitive convex_part.primitive
both_weigh q (quadratic.Quadratic p) (convex.ConvexMonotone2 c) w = (refl, refl)
both_weigh q (quadratic.Quadratic p) (convex.ConvexMonotone3 c) w = (refl, refl)
both_weigh q (quadratic.Quadratic p) (convex.ConvexMonotone4 c) w = (refl, refl)
both_weigh q (quadratic.Quadratic p) (convex.ConvexMonotone4Min c) w = (refl, refl)
both_weigh q (quadratic.QuadraticMin p) (convex.ConvexMonotone2 c) w = (refl, refl)
both_weigh q (quadratic.QuadraticMin p) (convex.ConvexMonotone3 c) w = (refl, refl)
both_weigh q (quadratic.QuadraticMin p) (convex.ConvexMonotone4 c) w = (refl, refl)
both_weigh q (quadratic.QuadraticMin p) (convex.ConvexMonotone4Min c) w = (refl, refl)

pub value_weighs : (q : Float) → Weighs (λ s. value s q)
value_weighs q p c w = (both_weigh q p c w).0

pub primitive_weighs : (q : Float) → Weighs (λ s. primitive s q)
primitive_weighs q p c w = (both_weigh q p c w).1

module _ (f : Section → Float) (weighs : Weighs f) (w : Float) where
  pub together_answers : (p : Option QuadraticPart) (o : OtherFound) → together w (quadratic_number f p) (other_number f o) ≡ answer_in f (joined w p o)
  unfolding other_number joined
  together_answers None maybe_other.Absent = refl
  together_answers None (maybe_other.Constant s) = refl
  together_answers None (maybe_other.Gradient s) = refl
  together_answers None (maybe_other.Convex c) = refl
  together_answers (Some p) maybe_other.Absent = refl
  together_answers (Some p) (maybe_other.Constant s) = refl
  together_answers (Some p) (maybe_other.Gradient s) = refl
  together_answers (Some p) (maybe_other.Convex c) = ap (λ (v : Float). Some (mark v)) (weighs p c w)

-- the whole record, by the two kinds that its tag names and its first fields
module _ (f : Section → Float) (tag : ℕ) {s t : List Float} (first : IsFirstChunk s t field_count) where
  module _ {quadratic_kind : QuadraticKind} {other_kind : OtherKind} {p : Option Float} {o : Part} {a : Option Marked} where
    pub parts_answer : Weighs f → Some quadratic_kind ≡ quadratic_named tag → p ≡ quadratic_number f (quadratic_from quadratic_kind t) →
        Some other_kind ≡ other_named tag → o ≡ other_number f (other_from other_kind t) → a ≡ together (slot t 0) p o → a ≡ answer_in f (read_section tag s)
    parts_answer weighs k e l g h =
        h ∙ rw (e, g) (together_answers f weighs (slot t 0) _ _ ∙ ap (answer_in f) (read_by_kinds tag t (first_length first) k l ∙ read_by_fields first tag))

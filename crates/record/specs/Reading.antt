-- 01, Buffers and section records: a section from its tag and slots
use Rattle.std.specs.Prelude.{ℕ, ◌*◌, Bool, true, false, cond, List, [], ltb, Float, length, get_or, take, drop, Option, Some, None, is_some}
use Rattle.std.specs.Float.{nan}
use Rattle.section.specs.declared.everywhere_constant.EverywhereConstant.{EverywhereConstant}
use Rattle.section.specs.declared.constant_grad.ConstantGrad.{ConstantGrad}
use Rattle.convex.specs.declared.convex_monotone2.ConvexMonotone2.{ConvexMonotone2}
use Rattle.convex.specs.declared.convex_monotone3.ConvexMonotone3.{ConvexMonotone3}
use Rattle.convex.specs.declared.convex_monotone4.ConvexMonotone4.{ConvexMonotone4}
use Rattle.convex.specs.declared.convex_monotone4_min.ConvexMonotone4Min.{ConvexMonotone4Min}
use Rattle.quadratic.specs.declared.quadratic.Quadratic.{Quadratic}
use Rattle.quadratic.specs.declared.quadratic_min.QuadraticMin.{QuadraticMin}
use Rattle.section.specs.declared.quadratic_part.QuadraticPart.{QuadraticPart}
use Rattle.section.specs.declared.quadratic_part.QuadraticPart.TheVariants as quadratic
use Rattle.section.specs.declared.convex_monotone_part.ConvexMonotonePart.TheVariants as convex
use Rattle.section.specs.declared.section.Section.{Section}
use Rattle.section.specs.declared.section.Section.TheVariants as section
use Rattle.section.specs.Combination as combination
use Rattle.section.specs.QuadraticPart as quadratic_part
use Rattle.section.specs.ConvexMonotonePart as convex_part
use Rattle.numbers.specs.OneOutcome.{pair}
use Rattle.numbers.specs.Sizes.{field_count, slot_count}
use Rattle.refusal.specs.Refusal.{number}
use Rattle.refusal.specs.declared.Refusal.TheVariants.{RecordNotLegal}
use Rattle.record.specs.Slots.{slots_of}
use Rattle.record.specs.Tag.{quadratic_named, other_named, of_kinds, tag_of}
use Rattle.record.specs.declared.tag.QuadraticKind.{QuadraticKind}
use Rattle.record.specs.declared.tag.QuadraticKind.TheVariants as quadratic_kind
use Rattle.record.specs.declared.tag.OtherKind.{OtherKind}
use Rattle.record.specs.declared.tag.OtherKind.TheVariants as other_kind
use Rattle.record.specs.declared.reading.OtherFound.{OtherFound}
use Rattle.record.specs.declared.reading.OtherFound.TheVariants as maybe_other

abbrev pub slot : List Float → ℕ → Float
slot s i = get_or s i nan

-- the quadratic part's fields stand from slot 1 on, the other part's from slot 13 on
module _ (s : List Float) where
  abbrev pub quadratic_in : Quadratic
  quadratic_in = record { x_prev = slot s 1; x_scaling = slot s 2; a = slot s 3; b = slot s 4; c = slot s 5; f_next = slot s 6; prev_primitive = slot s 7 }

  abbrev pub constant_in : EverywhereConstant
  constant_in = record { value = slot s 13; prev_primitive = slot s 14; x_prev = slot s 15 }

  abbrev pub gradient_in : ConstantGrad
  gradient_in = record { f_prev = slot s 13; prev_primitive = slot s 14; x_prev = slot s 15; f_grad = slot s 16; f_next = slot s 17 }

  abbrev pub second_in : ConvexMonotone2
  second_in = record {
    x_prev = slot s 13;
    x_scaling = slot s 14;
    g_prev = slot s 15;
    g_next = slot s 16;
    f_average = slot s 17;
    eta2 = slot s 18;
    prev_primitive = slot s 19;
  }

  abbrev pub third_in : ConvexMonotone3
  third_in = record {
    x_prev = slot s 13;
    x_scaling = slot s 14;
    g_prev = slot s 15;
    g_next = slot s 16;
    f_average = slot s 17;
    eta3 = slot s 18;
    prev_primitive = slot s 19;
  }

  abbrev pub fourth_in : ConvexMonotone4
  fourth_in = record {
    x_prev = slot s 13;
    x_scaling = slot s 14;
    g_prev = slot s 15;
    g_next = slot s 16;
    f_average = slot s 17;
    eta4 = slot s 18;
    prev_primitive = slot s 19;
    a = slot s 20;
  }

abbrev pub quadratic_min_in : Bool → List Float → QuadraticMin
quadratic_min_in split s = record {
  split_region = split;
  x1 = slot s 1;
  x2 = slot s 2;
  x3 = slot s 3;
  x4 = slot s 4;
  a = slot s 5;
  b = slot s 6;
  c = slot s 7;
  primitive1 = slot s 8;
  primitive2 = slot s 9;
  f_next = slot s 10;
  x_scaling = slot s 11;
  x_ratio = slot s 12;
}

abbrev pub fourth_min_in : Bool → List Float → ConvexMonotone4Min
fourth_min_in split s = record { base = fourth_in s; split_region = split; x_ratio = slot s 21; x2 = slot s 22; x3 = slot s 23 }

-- the part of each kind
unfoldable pub quadratic_from : QuadraticKind → List Float → Option QuadraticPart
quadratic_from quadratic_kind.Absent s = None
quadratic_from quadratic_kind.Quadratic s = Some (quadratic.Quadratic (quadratic_in s))
quadratic_from quadratic_kind.QuadraticMin s = Some (quadratic.QuadraticMin (quadratic_min_in false s))
quadratic_from quadratic_kind.QuadraticMinSplit s = Some (quadratic.QuadraticMin (quadratic_min_in true s))

unfoldable pub other_from : OtherKind → List Float → OtherFound
other_from other_kind.Absent s = maybe_other.Absent
other_from other_kind.EverywhereConstant s = maybe_other.Constant (constant_in s)
other_from other_kind.ConstantGrad s = maybe_other.Gradient (gradient_in s)
other_from other_kind.ConvexMonotone2 s = maybe_other.Convex (convex.ConvexMonotone2 (second_in s))
other_from other_kind.ConvexMonotone3 s = maybe_other.Convex (convex.ConvexMonotone3 (third_in s))
other_from other_kind.ConvexMonotone4 s = maybe_other.Convex (convex.ConvexMonotone4 (fourth_in s))
other_from other_kind.ConvexMonotone4Min s = maybe_other.Convex (convex.ConvexMonotone4Min (fourth_min_in false s))
other_from other_kind.ConvexMonotone4MinSplit s = maybe_other.Convex (convex.ConvexMonotone4Min (fourth_min_in true s))

unfoldable pub joined : Float → Option QuadraticPart → OtherFound → Option Section
joined w None maybe_other.Absent = None
joined w None (maybe_other.Constant s) = Some (section.EverywhereConstant s)
joined w None (maybe_other.Gradient s) = Some (section.ConstantGrad s)
joined w None (maybe_other.Convex c) = Some (convex_part.alone c)
joined w (Some q) maybe_other.Absent = Some (quadratic_part.alone q)
joined w (Some q) (maybe_other.Constant s) = None
joined w (Some q) (maybe_other.Gradient s) = None
joined w (Some q) (maybe_other.Convex c) = Some (section.Combination (combination.new q c w))

unfoldable pub read_section : ℕ → List Float → Option Section
unfolding quadratic_named other_named quadratic_from other_from joined
read_section tag s =
    cond (ltb (length s) field_count) None
    (of_kinds None (λ q o. joined (slot s 0) (quadratic_from q s) (other_from o s)) (quadratic_named tag) (other_named tag))

abbrev pub is_section : Option Section → Bool
is_section read = is_some read

-- in the documents' numbers: 0 with the section's tag and slots, or 15 with none
abbrev pub found_in_numbers : Option Section → ℕ × (ℕ × List Float)
found_in_numbers (Some s) = pair 0 (pair (tag_of s) (slots_of s))
found_in_numbers None = pair (number RecordNotLegal) (pair 0 [])

-- the record of section i, of all records in a row
abbrev pub record_at : List ℕ → List Float → ℕ → Option Section
record_at tags slots i = read_section (get_or tags i 0) (take slot_count (drop (slot_count * i) slots))

-- A section written and read back is the same section: every section, whatever numbers it holds, and so every one that a build can make. What stands
-- behind its own fields is not looked at.
use mathlib.Core.Bool.{Bool, true, false}
use Prim.Native.Nat.{ℕ, ◌+◌, ◌≤◌, ◌<◌}
use native.Mathlib.Omega.{arith}
use mathlib.Core.List.{List, [], ◌∷◌, ◌++◌}
use mathlib.Core.Path.{◌≡◌, refl, sym, ap, ◌∙◌}
use borrow.Author.Tests.{le-ltb}
use lib.Ieee.{Float, nan}
use lib.ListN.{length, get_or, length-append, get_or-append}
use lib.Seq.{get_or-append-add}
use Rattle.std.specs.Prelude.{Option, Some, None}
use Rattle.numbers.specs.Sizes.{field_count, slot_count}
use Rattle.section.specs.Section.{value}
use Rattle.section.specs.Combination as combination
use Rattle.quadratic.specs.declared.quadratic.Quadratic.{Quadratic}
use Rattle.quadratic.specs.declared.quadratic_min.QuadraticMin.{QuadraticMin}
use Rattle.convex.specs.declared.convex_monotone4_min.ConvexMonotone4Min.{ConvexMonotone4Min}
use Rattle.section.specs.declared.quadratic_part.QuadraticPart.{QuadraticPart}
use Rattle.section.specs.declared.quadratic_part.QuadraticPart.TheVariants as quadratic
use Rattle.section.specs.declared.convex_monotone_part.ConvexMonotonePart.{ConvexMonotonePart}
use Rattle.section.specs.declared.convex_monotone_part.ConvexMonotonePart.TheVariants as convex
use Rattle.section.specs.declared.section.Section.{Section}
use Rattle.section.specs.declared.section.Section.TheVariants as section
use Rattle.record.specs.Tag.{tag_of, quadratic_named, other_named, of_kinds}
use Rattle.record.specs.Slots.{slots_of, quadratic_slots, convex_slots, layout, record_of}
use Rattle.record.specs.Knots.{left_price, right_price, total_after}
use Rattle.record.specs.Reading.{slot, quadratic_from, other_from, joined, read_section}

-- a weight, a quadratic part and another part fill its fields
parts_length : (w : Float) (p : QuadraticPart) (c : ConvexMonotonePart) → length (layout w (quadratic_slots p) (convex_slots c)) ≡ field_count
unfolding quadratic_slots convex_slots
parts_length w (quadratic.Quadratic p) (convex.ConvexMonotone2 c) = refl
parts_length w (quadratic.Quadratic p) (convex.ConvexMonotone3 c) = refl
parts_length w (quadratic.Quadratic p) (convex.ConvexMonotone4 c) = refl
parts_length w (quadratic.Quadratic p) (convex.ConvexMonotone4Min c) = refl
parts_length w (quadratic.QuadraticMin p) (convex.ConvexMonotone2 c) = refl
parts_length w (quadratic.QuadraticMin p) (convex.ConvexMonotone3 c) = refl
parts_length w (quadratic.QuadraticMin p) (convex.ConvexMonotone4 c) = refl
parts_length w (quadratic.QuadraticMin p) (convex.ConvexMonotone4Min c) = refl

-- every section has so many fields
pub slots_length : (s : Section) → length (slots_of s) ≡ field_count
unfolding slots_of quadratic_slots convex_slots
slots_length (section.EverywhereConstant s) = refl
slots_length (section.ConstantGrad s) = refl
slots_length (section.ConvexMonotone2 s) = refl
slots_length (section.ConvexMonotone3 s) = refl
slots_length (section.ConvexMonotone4 s) = refl
slots_length (section.ConvexMonotone4Min s) = refl
slots_length (section.Quadratic s) = refl
slots_length (section.QuadraticMin s) = refl
slots_length (section.Combination s) = parts_length s.quadraticity s.quadratic_helper s.conv_mono_helper

-- what is read where the slots are there
abbrev joined_from : ℕ → List Float → Option Section
joined_from tag s = of_kinds None (λ q o. joined (slot s 0) (quadratic_from q s) (other_from o s)) (quadratic_named tag) (other_named tag)

-- whatever stands behind the fields
module _ (more : List Float) where
  abbrev Back : Section → Type 0
  Back s = joined_from (tag_of s) (slots_of s ++ more) ≡ Some s

  -- the Min kinds with their split flag written out: at a section's own flag each is the section itself
  abbrev with_split : Bool → QuadraticMin → QuadraticMin
  with_split b s = record {
    split_region = b;
    x1 = s.x1;
    x2 = s.x2;
    x3 = s.x3;
    x4 = s.x4;
    a = s.a;
    b = s.b;
    c = s.c;
    primitive1 = s.primitive1;
    primitive2 = s.primitive2;
    f_next = s.f_next;
    x_scaling = s.x_scaling;
    x_ratio = s.x_ratio;
  }

  abbrev with_split4 : Bool → ConvexMonotone4Min → ConvexMonotone4Min
  with_split4 b s = record { base = s.base; split_region = b; x_ratio = s.x_ratio; x2 = s.x2; x3 = s.x3 }

  abbrev both : Float → QuadraticPart → ConvexMonotonePart → Section
  both w p c = section.Combination (combination.new p c w)

  min_back : (b : Bool) (s : QuadraticMin) → Back (section.QuadraticMin (with_split b s))
  unfolding tag_of slots_of quadratic_from other_from joined quadratic_named other_named
  min_back true s = refl
  min_back false s = refl

  fourth_back : (b : Bool) (s : ConvexMonotone4Min) → Back (section.ConvexMonotone4Min (with_split4 b s))
  unfolding tag_of slots_of quadratic_from other_from joined quadratic_named other_named
  fourth_back true s = refl
  fourth_back false s = refl

  -- a combination, by its quadratic part and then by the other
  plain_fourth : (w : Float) (q : Quadratic) (b : Bool) (s : ConvexMonotone4Min) → Back (both w (quadratic.Quadratic q) (convex.ConvexMonotone4Min (with_split4 b s)))
  unfolding tag_of slots_of quadratic_from other_from joined quadratic_named other_named
  plain_fourth w q true s = refl
  plain_fourth w q false s = refl

  plain_both : (w : Float) (q : Quadratic) (c : ConvexMonotonePart) → Back (both w (quadratic.Quadratic q) c)
  unfolding tag_of slots_of quadratic_from other_from joined quadratic_named other_named
  plain_both w q (convex.ConvexMonotone2 s) = refl
  plain_both w q (convex.ConvexMonotone3 s) = refl
  plain_both w q (convex.ConvexMonotone4 s) = refl
  plain_both w q (convex.ConvexMonotone4Min s) = plain_fourth w q s.split_region s

  min_fourth : (w : Float) (a : Bool) (q : QuadraticMin) (b : Bool) (s : ConvexMonotone4Min) →
      Back (both w (quadratic.QuadraticMin (with_split a q)) (convex.ConvexMonotone4Min (with_split4 b s)))
  unfolding tag_of slots_of quadratic_from other_from joined quadratic_named other_named
  min_fourth w true q true s = refl
  min_fourth w true q false s = refl
  min_fourth w false q true s = refl
  min_fourth w false q false s = refl

  min_both : (w : Float) (a : Bool) (q : QuadraticMin) (c : ConvexMonotonePart) → Back (both w (quadratic.QuadraticMin (with_split a q)) c)
  unfolding tag_of slots_of quadratic_from other_from joined quadratic_named other_named
  min_both w true q (convex.ConvexMonotone2 s) = refl
  min_both w true q (convex.ConvexMonotone3 s) = refl
  min_both w true q (convex.ConvexMonotone4 s) = refl
  min_both w true q (convex.ConvexMonotone4Min s) = min_fourth w true q s.split_region s
  min_both w false q (convex.ConvexMonotone2 s) = refl
  min_both w false q (convex.ConvexMonotone3 s) = refl
  min_both w false q (convex.ConvexMonotone4 s) = refl
  min_both w false q (convex.ConvexMonotone4Min s) = min_fourth w false q s.split_region s

  both_back : (w : Float) (p : QuadraticPart) (c : ConvexMonotonePart) → Back (both w p c)
  both_back w (quadratic.Quadratic q) c = plain_both w q c
  both_back w (quadratic.QuadraticMin q) c = min_both w q.split_region q c

  back : (s : Section) → Back s
  unfolding tag_of slots_of quadratic_from other_from joined quadratic_named other_named
  back (section.EverywhereConstant s) = refl
  back (section.ConstantGrad s) = refl
  back (section.ConvexMonotone2 s) = refl
  back (section.ConvexMonotone3 s) = refl
  back (section.ConvexMonotone4 s) = refl
  back (section.ConvexMonotone4Min s) = fourth_back s.split_region s
  back (section.Quadratic s) = refl
  back (section.QuadraticMin s) = min_back s.split_region s
  back (section.Combination s) = both_back s.quadraticity s.quadratic_helper s.conv_mono_helper

  pub round_trip : (s : Section) → read_section (tag_of s) (slots_of s ++ more) ≡ Some s
  unfolding read_section
  round_trip s =
      let room : field_count ≤ length (slots_of s ++ more) = rw (length-append (slots_of s) more, slots_length s) (omega arith) in
      rw (le-ltb (length (slots_of s ++ more)) field_count room) (back s)

-- ---- The record of a period.
module _ (s : Section) (left right total : Float) where
  pub record_length : length (record_of s left right total) ≡ slot_count
  unfolding record_of
  record_length = length-append (slots_of s) _ ∙ ap (λ (n : ℕ). n + 3) (slots_length s)

  pub record_back : read_section (tag_of s) (record_of s left right total) ≡ Some s
  unfolding record_of
  record_back = round_trip _ s

  -- its section's fields, then the price at the left knot, the price at the right knot and the total
  pub field_in : (k : ℕ) → k < field_count → get_or (record_of s left right total) k nan ≡ get_or (slots_of s) k nan
  unfolding record_of
  field_in k l = get_or-append (slots_of s) _ nan k (rw (slots_length s) l)

  beyond : (k : ℕ) → get_or (record_of s left right total) (field_count + k) nan ≡ get_or (value s left ∷ value s right ∷ total ∷ []) k nan
  unfolding record_of
  beyond k = ap (λ (n : ℕ). get_or (record_of s left right total) (n + k) nan) (sym (slots_length s)) ∙ get_or-append-add (slots_of s) _ k nan

  pub left_in : get_or (record_of s left right total) left_price nan ≡ value s left
  left_in = beyond 0

  pub right_in : get_or (record_of s left right total) right_price nan ≡ value s right
  right_in = beyond 1

  pub total_in : get_or (record_of s left right total) total_after nan ≡ total
  total_in = beyond 2

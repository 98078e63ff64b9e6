-- 01, Buffers and section records: the tag
use Rattle.std.specs.Prelude.{ℕ, ◌+◌, ◌*◌, ◌/◌, ◌%◌, ◌^◌, Bool, true, false, cond, not, ◌||◌, List, [], ◌∷◌, eqb, find, Option, Some, None}
use Rattle.section.specs.declared.quadratic_part.QuadraticPart.{QuadraticPart}
use Rattle.section.specs.declared.quadratic_part.QuadraticPart.TheVariants as quadratic
use Rattle.section.specs.declared.convex_monotone_part.ConvexMonotonePart.{ConvexMonotonePart}
use Rattle.section.specs.declared.convex_monotone_part.ConvexMonotonePart.TheVariants as convex
use Rattle.section.specs.declared.section.Section.{Section}
use Rattle.section.specs.declared.section.Section.TheVariants as section
use Rattle.record.specs.declared.tag.QuadraticKind.{QuadraticKind}
use Rattle.record.specs.declared.tag.QuadraticKind.TheVariants as quadratic_kind
use Rattle.record.specs.declared.tag.OtherKind.{OtherKind}
use Rattle.record.specs.declared.tag.OtherKind.TheVariants as other_kind

-- most significant first: 3 bits for the quadratic part, 1 for its split, 4 for the other part, 1 for its split, 7 to spare
abbrev pub bit : Bool → ℕ
bit false = 0
bit true = 1

abbrev pub quadratic_field : ℕ → Bool → ℕ
quadratic_field code split = code * 2 ^ 13 + bit split * 2 ^ 12

abbrev pub other_field : ℕ → Bool → ℕ
other_field code split = code * 2 ^ 8 + bit split * 2 ^ 7

-- the codes: split bits occur only with the Min kinds
abbrev pub quadratic_bits : QuadraticKind → ℕ
quadratic_bits quadratic_kind.Absent = quadratic_field 0 false
quadratic_bits quadratic_kind.Quadratic = quadratic_field 1 false
quadratic_bits quadratic_kind.QuadraticMin = quadratic_field 2 false
quadratic_bits quadratic_kind.QuadraticMinSplit = quadratic_field 2 true

abbrev pub other_bits : OtherKind → ℕ
other_bits other_kind.Absent = other_field 0 false
other_bits other_kind.EverywhereConstant = other_field 1 false
other_bits other_kind.ConstantGrad = other_field 2 false
other_bits other_kind.ConvexMonotone2 = other_field 3 false
other_bits other_kind.ConvexMonotone3 = other_field 4 false
other_bits other_kind.ConvexMonotone4 = other_field 5 false
other_bits other_kind.ConvexMonotone4Min = other_field 6 false
other_bits other_kind.ConvexMonotone4MinSplit = other_field 6 true

-- of some kinds the one whose bits these are, where there is one
abbrev pub kind_with : {K : Type 0} → (K → ℕ) → List K → ℕ → Option K
kind_with bits ks n = find (λ k. eqb n (bits k)) ks

abbrev pub quadratic_kinds : List QuadraticKind
quadratic_kinds =
    quadratic_kind.Absent ∷ quadratic_kind.Quadratic ∷ quadratic_kind.QuadraticMin ∷ quadratic_kind.QuadraticMinSplit ∷ []

abbrev pub other_kinds : List OtherKind
other_kinds =
    other_kind.Absent
    ∷ other_kind.EverywhereConstant
    ∷ other_kind.ConstantGrad
    ∷ other_kind.ConvexMonotone2
    ∷ other_kind.ConvexMonotone3
    ∷ other_kind.ConvexMonotone4
    ∷ other_kind.ConvexMonotone4Min
    ∷ other_kind.ConvexMonotone4MinSplit
    ∷ []

-- the kinds that a tag names: by its upper 4 bits, and by all others, those to spare among them. A code, a split bit or a spare bit that has no meaning
-- names none.
unfoldable pub quadratic_named : ℕ → Option QuadraticKind
quadratic_named tag = kind_with quadratic_bits quadratic_kinds (tag / 2 ^ 12 * 2 ^ 12)

unfoldable pub other_named : ℕ → Option OtherKind
other_named tag = kind_with other_bits other_kinds (tag % 2 ^ 12)

-- f of both kinds, where both are named, else d
abbrev pub of_kinds : {A : Type 0} → A → (QuadraticKind → OtherKind → A) → Option QuadraticKind → Option OtherKind → A
of_kinds d f (Some q) (Some o) = f q o
of_kinds d f (Some q) None = d
of_kinds d f None o = d

-- the tag of a section, the other way
unfoldable pub quadratic_tag : QuadraticPart → ℕ
quadratic_tag (quadratic.Quadratic s) = quadratic_bits quadratic_kind.Quadratic
quadratic_tag (quadratic.QuadraticMin s) = cond s.split_region (quadratic_bits quadratic_kind.QuadraticMinSplit) (quadratic_bits quadratic_kind.QuadraticMin)

unfoldable pub convex_tag : ConvexMonotonePart → ℕ
convex_tag (convex.ConvexMonotone2 s) = other_bits other_kind.ConvexMonotone2
convex_tag (convex.ConvexMonotone3 s) = other_bits other_kind.ConvexMonotone3
convex_tag (convex.ConvexMonotone4 s) = other_bits other_kind.ConvexMonotone4
convex_tag (convex.ConvexMonotone4Min s) = cond s.split_region (other_bits other_kind.ConvexMonotone4MinSplit) (other_bits other_kind.ConvexMonotone4Min)

unfoldable pub tag_of : Section → ℕ
unfolding quadratic_tag convex_tag
tag_of (section.EverywhereConstant s) = other_bits other_kind.EverywhereConstant
tag_of (section.ConstantGrad s) = other_bits other_kind.ConstantGrad
tag_of (section.ConvexMonotone2 s) = convex_tag (convex.ConvexMonotone2 s)
tag_of (section.ConvexMonotone3 s) = convex_tag (convex.ConvexMonotone3 s)
tag_of (section.ConvexMonotone4 s) = convex_tag (convex.ConvexMonotone4 s)
tag_of (section.ConvexMonotone4Min s) = convex_tag (convex.ConvexMonotone4Min s)
tag_of (section.Quadratic s) = quadratic_tag (quadratic.Quadratic s)
tag_of (section.QuadraticMin s) = quadratic_tag (quadratic.QuadraticMin s)
tag_of (section.Combination s) = quadratic_tag s.quadratic_helper + convex_tag s.conv_mono_helper

-- what a tag tells by itself: that a part is split, by the bit for it
abbrev pub quadratic_split_tag : ℕ → Bool
quadratic_split_tag tag = not (eqb (tag / 2 ^ 12 % 2) 0)

abbrev pub other_split_tag : ℕ → Bool
other_split_tag tag = not (eqb (tag / 2 ^ 7 % 2) 0)

abbrev pub split_tag : ℕ → Bool
split_tag tag = quadratic_split_tag tag || other_split_tag tag

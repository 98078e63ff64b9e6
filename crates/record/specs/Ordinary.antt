-- our own: whether a record is of ordinary size. Its section then answers finite numbers at every place of ordinary size (proofs/FiniteAnswers.antt).
use Rattle.std.specs.Prelude.{ℕ, Bool, true, false, ◌&&◌, List, leb, Float, length}
use Rattle.numbers.specs.Every.{all_below}
use Rattle.numbers.specs.Sizes.{field_count}
use Rattle.numbers.specs.Words.{◌⊖◌, one, ordinary_size, ordinary_divisor}
use Rattle.record.specs.Reading.{slot}
use Rattle.record.specs.Tag.{quadratic_named, other_named, of_kinds}
use Rattle.record.specs.declared.tag.QuadraticKind.{QuadraticKind}
use Rattle.record.specs.declared.tag.QuadraticKind.TheVariants as quadratic_kind
use Rattle.record.specs.declared.tag.OtherKind.{OtherKind}
use Rattle.record.specs.declared.tag.OtherKind.TheVariants as other_kind

-- What each kind divides by. Slot 2 is the length of a Quadratic; slots 1 and 4 are the ends of a QuadraticMin, and slot 12 is its ratio.
abbrev pub ordinary_quadratic : QuadraticKind → List Float → Bool
ordinary_quadratic quadratic_kind.Absent s = true
ordinary_quadratic quadratic_kind.Quadratic s = ordinary_divisor (slot s 2)
ordinary_quadratic quadratic_kind.QuadraticMin s = ordinary_divisor (slot s 4 ⊖ slot s 1)
ordinary_quadratic quadratic_kind.QuadraticMinSplit s = ordinary_divisor (slot s 4 ⊖ slot s 1) && ordinary_divisor (slot s 12)

-- slot 14 is the length of a convex-monotone kind, slot 18 its eta, and slot 21 its ratio
abbrev pub ordinary_fourth : List Float → Bool
ordinary_fourth s = ordinary_divisor (slot s 14) && (ordinary_divisor (slot s 18) && ordinary_divisor (one ⊖ slot s 18))

abbrev pub ordinary_other : OtherKind → List Float → Bool
ordinary_other other_kind.Absent s = true
ordinary_other other_kind.EverywhereConstant s = true
ordinary_other other_kind.ConstantGrad s = true
ordinary_other other_kind.ConvexMonotone2 s = ordinary_divisor (slot s 14) && ordinary_divisor (one ⊖ slot s 18)
ordinary_other other_kind.ConvexMonotone3 s = ordinary_divisor (slot s 14) && ordinary_divisor (slot s 18)
ordinary_other other_kind.ConvexMonotone4 s = ordinary_fourth s
ordinary_other other_kind.ConvexMonotone4Min s = ordinary_fourth s
ordinary_other other_kind.ConvexMonotone4MinSplit s = ordinary_fourth s && ordinary_divisor (slot s 21)

-- every number of the section is of ordinary size, those that its kinds don't use included
abbrev pub ordinary_slots : List Float → Bool
ordinary_slots s = all_below field_count (λ i. ordinary_size (slot s i))

unfoldable pub ordinary_record : ℕ → List Float → Bool
ordinary_record tag s =
    leb field_count (length s)
    && (ordinary_slots s && of_kinds false (λ q o. ordinary_quadratic q s && ordinary_other o s) (quadratic_named tag) (other_named tag))

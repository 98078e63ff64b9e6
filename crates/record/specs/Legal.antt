-- 01, Buffers and section records: which tags are legal
use Rattle.std.specs.Prelude.{ℕ, Bool, true, false, ◌&&◌, List, leb, Float, length}
use Rattle.numbers.specs.Sizes.{field_count}
use Rattle.record.specs.Tag.{quadratic_named, other_named, of_kinds}
use Rattle.record.specs.declared.tag.QuadraticKind.{QuadraticKind}
use Rattle.record.specs.declared.tag.QuadraticKind.TheVariants as quadratic_kind
use Rattle.record.specs.declared.tag.OtherKind.{OtherKind}
use Rattle.record.specs.declared.tag.OtherKind.TheVariants as other_kind

-- with no quadratic part there must be another
abbrev pub alone : OtherKind → Bool
alone other_kind.Absent = false
alone other_kind.EverywhereConstant = true
alone other_kind.ConstantGrad = true
alone other_kind.ConvexMonotone2 = true
alone other_kind.ConvexMonotone3 = true
alone other_kind.ConvexMonotone4 = true
alone other_kind.ConvexMonotone4Min = true
alone other_kind.ConvexMonotone4MinSplit = true

-- with one, there need not be another, and it is of no constant kind
abbrev pub beside : OtherKind → Bool
beside other_kind.Absent = true
beside other_kind.EverywhereConstant = false
beside other_kind.ConstantGrad = false
beside other_kind.ConvexMonotone2 = true
beside other_kind.ConvexMonotone3 = true
beside other_kind.ConvexMonotone4 = true
beside other_kind.ConvexMonotone4Min = true
beside other_kind.ConvexMonotone4MinSplit = true

abbrev pub pairs : QuadraticKind → OtherKind → Bool
pairs quadratic_kind.Absent o = alone o
pairs quadratic_kind.Quadratic o = beside o
pairs quadratic_kind.QuadraticMin o = beside o
pairs quadratic_kind.QuadraticMinSplit o = beside o

-- a tag that names no kind, by a code, a split bit or a spare bit that has no meaning, is not legal
abbrev pub legal : ℕ → Bool
legal tag = of_kinds false pairs (quadratic_named tag) (other_named tag)

-- a record is legal where its tag is and its slots are there
abbrev pub legal_record : ℕ → List Float → Bool
legal_record tag slots = leb field_count (length slots) && legal tag

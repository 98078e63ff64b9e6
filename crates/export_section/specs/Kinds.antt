-- 000, the kinds' `new`; 02, K3, the careful one of QuadraticMin; our own safe ones; 01, Buffers and section records: a single section, and its record in a lent tag and lent slots
use Rattle.std.specs.Prelude.{ℕ, Bool, cond, ◌||◌, List, ltb, Float, length, set}
use Rattle.section.specs.EverywhereConstant
use Rattle.section.specs.ConstantGrad
use Rattle.convex.specs.ConvexMonotone2
use Rattle.convex.specs.ConvexMonotone3
use Rattle.convex.specs.ConvexMonotone4
use Rattle.convex.specs.ConvexMonotone4Min
use Rattle.quadratic.specs.Quadratic
use Rattle.quadratic.specs.QuadraticMin
use Rattle.section.specs.declared.section.Section.{Section}
use Rattle.section.specs.declared.section.Section.TheVariants as section
use Rattle.refusal.specs.Refusal.{number}
use Rattle.numbers.specs.Sizes.{field_count}
use Rattle.record.specs.Slots.{slots_of}
use Rattle.record.specs.Tag.{tag_of}
use Rattle.refusal.specs.declared.Refusal.TheVariants.{BufferTooShort}
use Rattle.export_section.specs.Records.{copied}

-- a refusal's number, or 0, and the lent tag and slots as they are left
pub record SectionAcross : Type 0 where
  pub refusal : ℕ
  pub tag : List ℕ
  pub slots : List Float

abbrev pub across : ℕ → List ℕ → List Float → SectionAcross
across refusal tag slots = record { refusal = refusal; tag = tag; slots = slots }

-- a section by itself takes one tag and its fields
abbrev pub no_room : ℕ → ℕ → Bool
no_room tags slots = ltb tags 1 || ltb slots field_count

abbrev pub section_across : Section → List ℕ → List Float → SectionAcross
section_across s tag slots =
    cond (no_room (length tag) (length slots)) (across (number BufferTooShort) tag slots) (across 0 (set tag 0 (tag_of s)) (copied field_count (slots_of s) slots))

-- a section of each kind
abbrev pub constant : Float → Float → Float → Section
constant value prev_primitive x_prev = section.EverywhereConstant (EverywhereConstant.new value prev_primitive x_prev)

abbrev pub gradient : Float → Float → Float → Float → Float → Section
gradient f_prev prev_primitive x_prev x_next f_next = section.ConstantGrad (ConstantGrad.new f_prev prev_primitive x_prev x_next f_next)

abbrev pub second : Float → Float → Float → Float → Float → Float → Float → Section
second x_prev x_next g_prev g_next f_average eta2 prev_primitive = section.ConvexMonotone2 (ConvexMonotone2.new x_prev x_next g_prev g_next f_average eta2 prev_primitive)

abbrev pub third : Float → Float → Float → Float → Float → Float → Float → Section
third x_prev x_next g_prev g_next f_average eta3 prev_primitive = section.ConvexMonotone3 (ConvexMonotone3.new x_prev x_next g_prev g_next f_average eta3 prev_primitive)

abbrev pub fourth : Float → Float → Float → Float → Float → Float → Float → Section
fourth x_prev x_next g_prev g_next f_average eta4 prev_primitive = section.ConvexMonotone4 (ConvexMonotone4.new x_prev x_next g_prev g_next f_average eta4 prev_primitive)

abbrev pub fourth_min : Float → Float → Float → Float → Float → Float → Float → Section
fourth_min x_prev x_next g_prev g_next f_average eta4 prev_primitive = section.ConvexMonotone4Min (ConvexMonotone4Min.new x_prev x_next g_prev g_next f_average eta4 prev_primitive)

abbrev pub fourth_min_safe : Float → Float → Float → Float → Float → Float → Float → Section
fourth_min_safe x_prev x_next g_prev g_next f_average eta4 prev_primitive = section.ConvexMonotone4Min (ConvexMonotone4Min.safe x_prev x_next g_prev g_next f_average eta4 prev_primitive)

abbrev pub quadratic : Float → Float → Float → Float → Float → Float → Section
quadratic x_prev x_next f_prev f_next f_average prev_primitive = section.Quadratic (Quadratic.new x_prev x_next f_prev f_next f_average prev_primitive)

abbrev pub quadratic_min : Float → Float → Float → Float → Float → Float → Section
quadratic_min x_prev x_next f_prev f_next f_average prev_primitive = section.QuadraticMin (QuadraticMin.new x_prev x_next f_prev f_next f_average prev_primitive)

abbrev pub quadratic_min_careful : Float → Float → Float → Float → Float → Float → Section
quadratic_min_careful x_prev x_next f_prev f_next f_average prev_primitive = section.QuadraticMin (QuadraticMin.careful x_prev x_next f_prev f_next f_average prev_primitive)

abbrev pub quadratic_min_safe : Float → Float → Float → Float → Float → Float → Section
quadratic_min_safe x_prev x_next f_prev f_next f_average prev_primitive = section.QuadraticMin (QuadraticMin.safe x_prev x_next f_prev f_next f_average prev_primitive)

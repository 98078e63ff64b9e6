-- Steps of the code, which only the contracts of private functions cite.
use Rattle.std.specs.Prelude.{Float, Option, Some, None, option_map}
use Rattle.numbers.specs.Marks.{mark}
use Rattle.numbers.specs.declared.Marked.{Marked}
use Rattle.numbers.specs.Words.{◌⊕◌, ◌⊖◌, ◌⊗◌, one}
use Rattle.section.specs.declared.section.Section.{Section}
use Rattle.section.specs.declared.section.Section.TheVariants as section
use Rattle.section.specs.declared.quadratic_part.QuadraticPart.{QuadraticPart}
use Rattle.section.specs.QuadraticPart as quadratic_part
use Rattle.section.specs.ConvexMonotonePart as convex_part
use Rattle.record.specs.declared.reading.OtherFound.{OtherFound}
use Rattle.record.specs.declared.reading.OtherFound.TheVariants as maybe_other
use Rattle.record.specs.declared.number.Part.{Part}
use Rattle.record.specs.declared.number.Part.TheVariants as part

-- a part's number: f of the part as a section by itself
abbrev pub quadratic_number : (Section → Float) → Option QuadraticPart → Option Float
quadratic_number f read = option_map (λ q. f (quadratic_part.alone q)) read

unfoldable pub other_number : (Section → Float) → OtherFound → Part
other_number f maybe_other.Absent = part.Absent
other_number f (maybe_other.Constant s) = part.Alone (f (section.EverywhereConstant s))
other_number f (maybe_other.Gradient s) = part.Alone (f (section.ConstantGrad s))
other_number f (maybe_other.Convex c) = part.Shared (f (convex_part.alone c))

-- both numbers weighted as in a combination, or the one that there is; a part that stands alone stands beside no quadratic part
abbrev pub together : Float → Option Float → Part → Option Marked
together w None part.Absent = None
together w None (part.Alone o) = Some (mark o)
together w None (part.Shared o) = Some (mark o)
together w (Some p) part.Absent = Some (mark p)
together w (Some p) (part.Alone o) = None
together w (Some p) (part.Shared o) = Some (mark (w ⊗ p ⊕ (one ⊖ w) ⊗ o))

-- 01, Buffers and section records: the quadratic part
use Rattle.std.specs.Prelude.{Float}
use Rattle.section.specs.declared.quadratic_part.QuadraticPart.{QuadraticPart}
use Rattle.section.specs.declared.quadratic_part.QuadraticPart.TheVariants.{Quadratic, QuadraticMin}
use Rattle.section.specs.declared.section.Section.{Section}
use Rattle.section.specs.declared.section.Section.TheVariants as section
use Rattle.quadratic.specs.Quadratic as quadratic
use Rattle.quadratic.specs.QuadraticMin as quadmin

unfoldable pub value : QuadraticPart → Float → Float
value (Quadratic s) x = quadratic.value s x
value (QuadraticMin s) x = quadmin.value s x

unfoldable pub primitive : QuadraticPart → Float → Float
primitive (Quadratic s) x = quadratic.primitive s x
primitive (QuadraticMin s) x = quadmin.primitive s x

unfoldable pub f_next : QuadraticPart → Float
f_next (Quadratic s) = quadratic.f_next s
f_next (QuadraticMin s) = quadmin.f_next s

-- a single part is the section as it is
abbrev pub alone : QuadraticPart → Section
alone (Quadratic s) = section.Quadratic s
alone (QuadraticMin s) = section.QuadraticMin s

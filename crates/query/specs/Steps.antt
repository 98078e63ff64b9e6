-- Steps of the code, which only the contracts of private functions cite.
use Rattle.query.specs.Query.{QueryAnswer}
use Rattle.query.specs.declared.answer.ManyRefusal.TheVariants as many
use Rattle.query.specs.Many.{ManyAnswer}
use Rattle.numbers.specs.declared.Marked.{Marked}
use Rattle.std.specs.Prelude.{ℕ, ◌+◌, ◌-◌, ◌*◌, Bool, cond, not, ◌&&◌, ◌||◌, List, eqb, leb, Float, length, get_or, take, drop, Err, None, Ok, Option, Some}
use Rattle.std.specs.Float.Ieee.{neg, lt, le}
use Rattle.numbers.specs.Every.{all_below}
use Rattle.numbers.specs.Sizes.{slot_count}
use Rattle.numbers.specs.Words.{◌⊖◌, most_size, ordinary_size, ordinary_divisor}
use Rattle.section.specs.Section.{value, primitive}
use Rattle.section.specs.declared.section.Section.{Section}
use Rattle.record.specs.Legal.{legal_record}
use Rattle.record.specs.Ordinary.{ordinary_record}
use Rattle.refusal.specs.declared.Refusal.TheVariants.{RecordNotLegal}
use Rattle.table.specs.Table.{at}
use Rattle.curve.specs.declared.curve.Curve.{Curve}
use Rattle.query.specs.declared.number.Wanted.{Wanted}
use Rattle.query.specs.declared.number.Wanted.TheVariants as wanted

-- whether a query lies in section i: not below its first knot, and below its last, as far as these are inner knots
abbrev pub covers : List Float → Float → ℕ → Bool
covers x q i = (eqb i 0 || not (lt q (at x i))) && (leb (length x - 2) i || lt q (at x (i + 1)))

-- what a query asks of the section that covers it: the price at a point, or the total up to it
abbrev pub figure : Wanted → Section → Float → Float
figure wanted.Price = value
figure wanted.Total = primitive

-- what is answered by what the section that covers a query gives, where nothing else refuses it: 15 or a number
abbrev pub asked_of : Option Marked → QueryAnswer
asked_of (Some m) = Ok m
asked_of None = Err RecordNotLegal

-- how many of the first queries of n are answered
abbrev pub answered_before : ManyAnswer → ℕ → ℕ
answered_before (Ok tt) n = n
answered_before (Err (many.Whole r)) n = 0
answered_before (Err (many.Query r k)) n = k

-- ---- our own: a curve of ordinary size, which answers every point of ordinary size with a finite number
-- the record of section i is legal and of ordinary size
abbrev pub ordinary_at : List ℕ → List Float → ℕ → Bool
ordinary_at tags slots i =
    let tag = get_or tags i 0 in
    let record-slots = take slot_count (drop (slot_count * i) slots) in
    legal_record tag record-slots && ordinary_record tag record-slots

abbrev pub ordinary_tail : Curve → Bool
ordinary_tail curve = ordinary_size curve.tail.value && (ordinary_size curve.tail.total && ordinary_size curve.tail.from)

-- the least and the greatest point that it is asked for
abbrev pub lowest : List Float → Curve → Float
lowest x curve = cond curve.extrapolates (neg most_size) (at x 0)

abbrev pub highest : List Float → Curve → Float
highest x curve = cond curve.extrapolates most_size (at x (length x - 1))

abbrev pub between : Float → Float → Float → Bool
between low high q = le low q && le q high

-- two ends of a strip, by whose distance a number of ordinary size may be divided
abbrev pub apart : Float → Float → Bool
apart a b = lt a b && ordinary_divisor (b ⊖ a)

unfoldable pub ordinary_curve : List Float → Curve → List ℕ → List Float → Bool
ordinary_curve x curve tags slots =
    ordinary_size (lowest x curve) && (ordinary_size (highest x curve) && (ordinary_tail curve && all_below (length x - 1) (ordinary_at tags slots)))

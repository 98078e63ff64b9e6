-- A tag is read as a section exactly where it is legal, over all tags; there are 25 legal ones.
use Prim.Native.Nat.{ℕ, zero, suc, ◌+◌, ◌*◌, ◌%◌, ◌^◌, ◌≤◌, ◌<◌}
use native.Mathlib.Omega.{arith}
use mathlib.Core.Bool.{Bool, true, false, cond, ◌&&◌}
use mathlib.Core.List.{List, [], ◌∷◌}
use mathlib.Core.Logic.{⊎_elim}
use mathlib.Core.Path.{◌≡◌, refl, sym, ap, ◌∙◌}
use native.Mathlib.Nat.{add-zero, add-suc, zero-add}
use borrow.Author.Tests.{lt-ltb, le-ltb, lt-leb, le-leb, ne_eqb}
use lib.Ieee.{Float}
use lib.ListN.{length}
use Rattle.std.specs.Prelude.{Option, Some, None}
use Rattle.numbers.specs.Sizes.{field_count}
use Rattle.numbers.proofs.Ways.{never, lt_or_le}
use Rattle.section.specs.declared.quadratic_part.QuadraticPart.{QuadraticPart}
use Rattle.section.specs.declared.section.Section.{Section}
use Rattle.section.specs.declared.quadratic_part.QuadraticPart.TheVariants as quadratic
use Rattle.record.specs.Tag.{other_bits, other_kinds, kind_with, quadratic_named, other_named, of_kinds}
use Rattle.record.specs.Legal.{alone, beside, pairs, legal, legal_record}
use Rattle.record.specs.Reading.{quadratic_in, quadratic_min_in, quadratic_from, other_from, joined, read_section, is_section}
use Rattle.record.specs.declared.tag.QuadraticKind.{QuadraticKind}
use Rattle.record.specs.declared.tag.QuadraticKind.TheVariants as quadratic_kind
use Rattle.record.specs.declared.tag.OtherKind.{OtherKind}
use Rattle.record.specs.declared.tag.OtherKind.TheVariants as other_kind

-- two parts make a section where their kinds do, whatever their numbers are
module _ (w : Float) (s : List Float) where
  alone_joined : (o : OtherKind) → is_section (joined w None (other_from o s)) ≡ alone o
  unfolding joined other_from
  alone_joined other_kind.Absent = refl
  alone_joined other_kind.EverywhereConstant = refl
  alone_joined other_kind.ConstantGrad = refl
  alone_joined other_kind.ConvexMonotone2 = refl
  alone_joined other_kind.ConvexMonotone3 = refl
  alone_joined other_kind.ConvexMonotone4 = refl
  alone_joined other_kind.ConvexMonotone4Min = refl
  alone_joined other_kind.ConvexMonotone4MinSplit = refl

  beside_joined : (p : QuadraticPart) (o : OtherKind) → is_section (joined w (Some p) (other_from o s)) ≡ beside o
  unfolding joined other_from
  beside_joined p other_kind.Absent = refl
  beside_joined p other_kind.EverywhereConstant = refl
  beside_joined p other_kind.ConstantGrad = refl
  beside_joined p other_kind.ConvexMonotone2 = refl
  beside_joined p other_kind.ConvexMonotone3 = refl
  beside_joined p other_kind.ConvexMonotone4 = refl
  beside_joined p other_kind.ConvexMonotone4Min = refl
  beside_joined p other_kind.ConvexMonotone4MinSplit = refl

  pairs_joined : (q : QuadraticKind) (o : OtherKind) → is_section (joined w (quadratic_from q s) (other_from o s)) ≡ pairs q o
  unfolding joined quadratic_from
  pairs_joined quadratic_kind.Absent o = alone_joined o
  pairs_joined quadratic_kind.Quadratic o = beside_joined (quadratic.Quadratic (quadratic_in s)) o
  pairs_joined quadratic_kind.QuadraticMin o = beside_joined (quadratic.QuadraticMin (quadratic_min_in false s)) o
  pairs_joined quadratic_kind.QuadraticMinSplit o = beside_joined (quadratic.QuadraticMin (quadratic_min_in true s)) o

  kinds_joined : (q : Option QuadraticKind) (o : Option OtherKind) → is_section (of_kinds None (λ q o. joined w (quadratic_from q s) (other_from o s)) q o) ≡ of_kinds false pairs q o
  kinds_joined (Some q) (Some o) = pairs_joined q o
  kinds_joined (Some q) None = refl
  kinds_joined None o = refl

-- a tag is read as a section exactly where document 01 calls it legal
pub legal_exactly : (t : ℕ) (s : List Float) → field_count ≤ length s → is_section (read_section t s) ≡ legal t
unfolding read_section
legal_exactly t s h = simp (le-ltb (length s) field_count h) (kinds_joined _ s (quadratic_named t) (other_named t))

pub short_unread : (t : ℕ) (s : List Float) → length s < field_count → read_section t s ≡ None
unfolding read_section
short_unread t s h = simp (lt-ltb (length s) field_count h)

no_section : (f : Option Section) → is_section f ≡ false → f ≡ None
no_section (Some s) h = never refl h
no_section None h = refl

-- a record is read as a section exactly where it is legal
pub legal_is_read : (t : ℕ) (s : List Float) → is_section (read_section t s) ≡ legal_record t s
legal_is_read t s =
    ⊎_elim
    (λ (l : length s < field_count). ap is_section (short_unread t s l) ∙ sym (ap (λ (b : Bool). b && legal t) (lt-leb field_count (length s) l)))
    (λ (l : field_count ≤ length s). legal_exactly t s l ∙ sym (ap (λ (b : Bool). b && legal t) (le-leb field_count (length s) l)))
    (lt_or_le (length s) field_count)

-- an illegal tag reads nothing, however many slots there are
pub illegal_reads_nothing : (t : ℕ) (s : List Float) → legal t ≡ false → read_section t s ≡ None
illegal_reads_nothing t s e =
    ⊎_elim
    (λ (l : length s < field_count). short_unread t s l)
    (λ (l : field_count ≤ length s). no_section (read_section t s) (legal_exactly t s l ∙ e))
    (lt_or_le (length s) field_count)

-- a tag with a spare bit set is not legal: every kind's bits are even beyond those to spare
abbrev spare : ℕ → ℕ
spare t = t % 2 ^ 7

unnamed_illegal : (q : Option QuadraticKind) → of_kinds false pairs q None ≡ false
unnamed_illegal (Some q) = refl
unnamed_illegal None = refl

bits_unspared : (o : OtherKind) → spare (other_bits o) ≡ 0
bits_unspared other_kind.Absent = refl
bits_unspared other_kind.EverywhereConstant = refl
bits_unspared other_kind.ConstantGrad = refl
bits_unspared other_kind.ConvexMonotone2 = refl
bits_unspared other_kind.ConvexMonotone3 = refl
bits_unspared other_kind.ConvexMonotone4 = refl
bits_unspared other_kind.ConvexMonotone4Min = refl
bits_unspared other_kind.ConvexMonotone4MinSplit = refl

none_of : (t : ℕ) → (spare t ≡ 0 → ⊥) → (kinds : List OtherKind) → kind_with other_bits kinds (t % 2 ^ 12) ≡ None
none_of t k [] = refl
none_of t k (o ∷ kinds) = rw (ne_eqb (t % 2 ^ 12) (other_bits o) (λ e. k (omega (arith, e, bits_unspared o)))) (none_of t k kinds)

spare_unnamed : (t : ℕ) → (spare t ≡ 0 → ⊥) → other_named t ≡ None
unfolding other_named
spare_unnamed t k = none_of t k other_kinds

spare_illegal : (t : ℕ) → (spare t ≡ 0 → ⊥) → legal t ≡ false
spare_illegal t k = rw (spare_unnamed t k) (unnamed_illegal (quadratic_named t))

-- how many tags of a row are legal, and of all: 25
abbrev count : ℕ → (ℕ → Bool) → ℕ
count zero f = 0
count (suc n) f = cond (f n) 1 0 + count n f

abbrev count_rows : ℕ → ℕ
count_rows zero = 0
count_rows (suc n) = count 256 (λ l. legal (n * 256 + l)) + count_rows n

-- where no tag of a stretch is legal, the count stands still
count_gap : (a j : ℕ) (f : ℕ → Bool) → ((i : ℕ) → i < j → f (a + i) ≡ false) → count (a + j) f ≡ count a f
count_gap a zero f h = rw add-zero
count_gap a (suc j) f h = rw (add-suc, h j (omega arith), zero-add) (count_gap a j f (λ i l. h i (omega arith)))

-- a row of 256 has two tags with no spare bit set
abbrev two_of : ℕ → ℕ
two_of n = cond (legal (n * 256 + 128)) 1 0 + (cond (legal (n * 256 + 0)) 1 0 + 0)

row : (n : ℕ) → count 256 (λ l. legal (n * 256 + l)) ≡ two_of n
row n =
    count_gap 129 127 (λ l. legal (n * 256 + l)) (λ i l. spare_illegal (n * 256 + (129 + i)) (λ e. omega arith))
    ∙ ap (λ (k : ℕ). cond (legal (n * 256 + 128)) 1 0 + k) (count_gap 1 127 (λ l. legal (n * 256 + l)) (λ i l. spare_illegal (n * 256 + (1 + i)) (λ e. omega arith)))

abbrev count_twos : ℕ → ℕ
count_twos zero = 0
count_twos (suc n) = two_of n + count_twos n

rows : (n : ℕ) → count_rows n ≡ count_twos n
rows zero = refl
rows (suc n) = rw (row n, rows n)

twos : count_twos 256 ≡ 25
unfolding quadratic_named other_named
twos = refl

pub twenty_five : count_rows 256 ≡ 25
twenty_five = rows 256 ∙ twos

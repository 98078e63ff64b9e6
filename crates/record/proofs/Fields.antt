-- 02, K9: reading a section back looks at its own fields only, whatever stands behind them.
use Prim.Native.Nat.{ℕ, zero, suc, ◌≤◌, ◌<◌}
use native.Mathlib.Omega.{arith}
use mathlib.Core.List.{List}
use mathlib.Core.Path.{◌≡◌, refl, ap}
use mathlib.Core.Bool.{Bool, true, false, ◌&&◌}
use borrow.Author.Tests.{le-ltb, le-leb}
use lib.Ieee.{Float, nan}
use lib.ListN.{length}
use lib.Dec.{T, ltb, ltb→lt}
use Rattle.std.specs.Array.{IsFirstChunk}
use Rattle.std.specs.Prelude.{Option, Some, None}
use Rattle.std.proofs.lemmas.List.{get_or-take, length-take-le}
use Rattle.numbers.specs.Every.{all_below}
use Rattle.numbers.specs.Sizes.{field_count}
use Rattle.numbers.specs.Words.{ordinary_size}
use Rattle.record.specs.Ordinary.{ordinary_slots, ordinary_quadratic, ordinary_other, ordinary_record}
use Rattle.convex.specs.declared.convex_monotone4.ConvexMonotone4.{ConvexMonotone4}
use Rattle.convex.specs.declared.convex_monotone4_min.ConvexMonotone4Min.{ConvexMonotone4Min}
use Rattle.quadratic.specs.declared.quadratic_min.QuadraticMin.{QuadraticMin}
use Rattle.section.specs.declared.quadratic_part.QuadraticPart.TheVariants as quadratic
use Rattle.section.specs.declared.convex_monotone_part.ConvexMonotonePart.TheVariants as convex
use Rattle.record.specs.declared.reading.OtherFound.TheVariants as maybe_other
use Rattle.record.specs.Reading.{slot, quadratic_min_in, fourth_in, fourth_min_in, quadratic_from, other_from, joined, read_section}
use Rattle.record.specs.Tag.{quadratic_named, other_named, of_kinds}
use Rattle.record.specs.declared.tag.QuadraticKind.{QuadraticKind}
use Rattle.record.specs.declared.tag.QuadraticKind.TheVariants as quadratic_kind
use Rattle.record.specs.declared.tag.OtherKind.{OtherKind}
use Rattle.record.specs.declared.tag.OtherKind.TheVariants as other_kind

all_same : (n : ℕ) (f g : ℕ → Bool) → ((k : ℕ) → k < n → f k ≡ g k) → all_below n f ≡ all_below n g
unfolding all_below
all_same zero f g h = refl
all_same (suc n) f g h = rw (h n (omega arith), all_same n f g (λ k l. h k (omega arith)))

-- two lists of slots with the same fields
module _ (s t : List Float) (h : (k : ℕ) → k < field_count → slot s k ≡ slot t k) where
  at : (k : ℕ) → T (ltb k field_count) → slot s k ≡ slot t k
  at k l = h k (ltb→lt k field_count l)

  min_same : (split : Bool) → quadratic_min_in split s ≡ quadratic_min_in split t
  min_same split = rw (at 1 tt, at 2 tt, at 3 tt, at 4 tt, at 5 tt, at 6 tt, at 7 tt, at 8 tt, at 9 tt, at 10 tt, at 11 tt, at 12 tt)

  quadratic_same : (kind : QuadraticKind) → quadratic_from kind s ≡ quadratic_from kind t
  unfolding quadratic_from
  quadratic_same quadratic_kind.Absent = refl
  quadratic_same quadratic_kind.Quadratic = rw (at 1 tt, at 2 tt, at 3 tt, at 4 tt, at 5 tt, at 6 tt, at 7 tt)
  quadratic_same quadratic_kind.QuadraticMin = ap (λ (m : QuadraticMin). Some (quadratic.QuadraticMin m)) (min_same false)
  quadratic_same quadratic_kind.QuadraticMinSplit = ap (λ (m : QuadraticMin). Some (quadratic.QuadraticMin m)) (min_same true)

  fourth_same : fourth_in s ≡ fourth_in t
  fourth_same = rw (at 13 tt, at 14 tt, at 15 tt, at 16 tt, at 17 tt, at 18 tt, at 19 tt, at 20 tt)

  fourth_min_same : (split : Bool) → fourth_min_in split s ≡ fourth_min_in split t
  fourth_min_same split = rw (fourth_same, at 21 tt, at 22 tt, at 23 tt)

  other_same : (kind : OtherKind) → other_from kind s ≡ other_from kind t
  unfolding other_from
  other_same other_kind.Absent = refl
  other_same other_kind.EverywhereConstant = rw (at 13 tt, at 14 tt, at 15 tt)
  other_same other_kind.ConstantGrad = rw (at 13 tt, at 14 tt, at 15 tt, at 16 tt, at 17 tt)
  other_same other_kind.ConvexMonotone2 = rw (at 13 tt, at 14 tt, at 15 tt, at 16 tt, at 17 tt, at 18 tt, at 19 tt)
  other_same other_kind.ConvexMonotone3 = rw (at 13 tt, at 14 tt, at 15 tt, at 16 tt, at 17 tt, at 18 tt, at 19 tt)
  other_same other_kind.ConvexMonotone4 = ap (λ (m : ConvexMonotone4). maybe_other.Convex (convex.ConvexMonotone4 m)) fourth_same
  other_same other_kind.ConvexMonotone4Min = ap (λ (m : ConvexMonotone4Min). maybe_other.Convex (convex.ConvexMonotone4Min m)) (fourth_min_same false)
  other_same other_kind.ConvexMonotone4MinSplit = ap (λ (m : ConvexMonotone4Min). maybe_other.Convex (convex.ConvexMonotone4Min m)) (fourth_min_same true)

  -- and the same divisors of ordinary size
  ordinary_quadratic_same : (kind : QuadraticKind) → ordinary_quadratic kind s ≡ ordinary_quadratic kind t
  ordinary_quadratic_same quadratic_kind.Absent = refl
  ordinary_quadratic_same quadratic_kind.Quadratic = rw (at 2 tt)
  ordinary_quadratic_same quadratic_kind.QuadraticMin = rw (at 1 tt, at 4 tt)
  ordinary_quadratic_same quadratic_kind.QuadraticMinSplit = rw (at 1 tt, at 4 tt, at 12 tt)

  ordinary_other_same : (kind : OtherKind) → ordinary_other kind s ≡ ordinary_other kind t
  ordinary_other_same other_kind.Absent = refl
  ordinary_other_same other_kind.EverywhereConstant = refl
  ordinary_other_same other_kind.ConstantGrad = refl
  ordinary_other_same other_kind.ConvexMonotone2 = rw (at 14 tt, at 18 tt)
  ordinary_other_same other_kind.ConvexMonotone3 = rw (at 14 tt, at 18 tt)
  ordinary_other_same other_kind.ConvexMonotone4 = rw (at 14 tt, at 18 tt)
  ordinary_other_same other_kind.ConvexMonotone4Min = rw (at 14 tt, at 18 tt)
  ordinary_other_same other_kind.ConvexMonotone4MinSplit = rw (at 14 tt, at 18 tt, at 21 tt)

  ordinary_slots_same : ordinary_slots s ≡ ordinary_slots t
  ordinary_slots_same = all_same field_count (λ i. ordinary_size (slot s i)) (λ i. ordinary_size (slot t i)) (λ i l. ap ordinary_size (h i l))

  kinds_same : (q : Option QuadraticKind) (o : Option OtherKind) →
      of_kinds None (λ q o. joined (slot s 0) (quadratic_from q s) (other_from o s)) q o ≡ of_kinds None (λ q o. joined (slot t 0) (quadratic_from q t) (other_from o t)) q o
  kinds_same (Some q) (Some o) = rw (at 0 tt, quadratic_same q, other_same o)
  kinds_same (Some q) None = refl
  kinds_same None o = refl

  pub fields_decide : (tag : ℕ) → field_count ≤ length s → field_count ≤ length t → read_section tag s ≡ read_section tag t
  unfolding read_section
  fields_decide tag l m = rw (le-ltb (length s) field_count l, le-ltb (length t) field_count m) (kinds_same (quadratic_named tag) (other_named tag))

-- what is read where the fields are there and both kinds are named
pub read_by_kinds : (tag : ℕ) (s : List Float) {q : QuadraticKind} {o : OtherKind} → length s ≡ field_count → Some q ≡ quadratic_named tag → Some o ≡ other_named tag →
    joined (slot s 0) (quadratic_from q s) (other_from o s) ≡ read_section tag s
unfolding read_section
read_by_kinds tag s l k m = rw (le-ltb (length s) field_count (rw l (omega arith)), ← k, ← m)

-- the first fields of a record's slots, in place of all
module _ {s t : List Float} (first : IsFirstChunk s t field_count) where
  first_slot : (k : ℕ) → k < field_count → slot t k ≡ slot s k
  first_slot k l = rw first.same (get_or-take field_count s k nan l)

  pub first_length : length t ≡ field_count
  first_length = rw first.same (length-take-le field_count s first.enough)

  pub read_by_fields : (tag : ℕ) → read_section tag t ≡ read_section tag s
  read_by_fields tag = fields_decide t s first_slot tag (rw first_length (omega arith)) first.enough

  pub ordinary_by_fields : (tag : ℕ) {q : QuadraticKind} {o : OtherKind} → Some q ≡ quadratic_named tag → Some o ≡ other_named tag →
      ordinary_slots t && (ordinary_quadratic q t && ordinary_other o t) ≡ ordinary_record tag s
  unfolding ordinary_record
  ordinary_by_fields tag k m =
      rw (le-leb field_count (length s) first.enough, ← k, ← m, ordinary_slots_same t s first_slot, ordinary_quadratic_same t s first_slot _, ordinary_other_same t s first_slot _)

-- A record of ordinary size answers finite numbers: at a place of ordinary size its price is within 2 ^ 1000, and its total within 2 ^ 960.
use Prim.Native.Nat.{ℕ}
use mathlib.Core.Bool.{true, false, ◌&&◌}
use mathlib.Core.List.{List}
use mathlib.Core.Path.{◌≡◌, refl}
use lib.Dec.{T, ltb, leb, ltb→lt}
use lib.Ieee.{Float}
use lib.ListN.{length}
use Rattle.std.specs.Prelude.{Option, Some, None}
use borrow.Author.Tests.{le-ltb, leb-true}
use Rattle.numbers.specs.Sizes.{field_count}
use Rattle.numbers.specs.Words.{◌⊖◌, one, ordinary_size, ordinary_divisor}
use Rattle.numbers.proofs.Ways.{never}
use Rattle.numbers.proofs.Every.{and_split, all_at}
use Rattle.numbers.proofs.Bounds.{Within, Low, difference_within}
use Rattle.numbers.proofs.Ratios.{one_within}
use Rattle.numbers.proofs.Ordinary.{size_within, divisor_low}
use Rattle.convex.proofs.Ordinary.{Fourth}
use Rattle.convex.proofs.Ordinary as convex_laws
use Rattle.quadratic.proofs.Ordinary as quadratic_laws
use Rattle.section.proofs.Ordinary.{Constant, Gradient, OrdinaryQuadratic, OrdinaryConvex, Ordinary, section_value, section_primitive}
use Rattle.section.specs.Section.{value, primitive}
use Rattle.section.specs.declared.quadratic_part.QuadraticPart.{QuadraticPart}
use Rattle.section.specs.declared.quadratic_part.QuadraticPart.TheVariants as quadratic
use Rattle.section.specs.declared.convex_monotone_part.ConvexMonotonePart.TheVariants as convex
use Rattle.section.specs.declared.section.Section.{Section}
use Rattle.record.specs.Tag.{quadratic_named, other_named, of_kinds}
use Rattle.record.specs.Reading.{slot, fourth_in, quadratic_from, other_from, joined, read_section}
use Rattle.record.specs.Ordinary.{ordinary_quadratic, ordinary_fourth, ordinary_other, ordinary_slots, ordinary_record}
use Rattle.record.specs.declared.tag.QuadraticKind.{QuadraticKind}
use Rattle.record.specs.declared.tag.QuadraticKind.TheVariants as quadratic_kind
use Rattle.record.specs.declared.tag.OtherKind.{OtherKind}
use Rattle.record.specs.declared.tag.OtherKind.TheVariants as other_kind
use Rattle.record.specs.declared.reading.OtherFound.{OtherFound}
use Rattle.record.specs.declared.reading.OtherFound.TheVariants as maybe_other

-- what was read is of ordinary size, where something was
abbrev QuadraticRead : Option QuadraticPart → Type 0
QuadraticRead None = Unit {0}
QuadraticRead (Some p) = OrdinaryQuadratic p

abbrev OtherRead : OtherFound → Type 0
OtherRead maybe_other.Absent = Unit {0}
OtherRead (maybe_other.Constant s) = Constant s
OtherRead (maybe_other.Gradient s) = Gradient s
OtherRead (maybe_other.Convex c) = OrdinaryConvex c

abbrev Read : Option Section → Type 0
Read (Some k) = Ordinary k
Read None = Unit {0}

module _ (s : List Float) (sizes : ordinary_slots s ≡ true) where
  at : (i : ℕ) → T (ltb i field_count) → Within 80 (slot s i)
  at i h = size_within (slot s i) (all_at field_count _ sizes i (ltb→lt i field_count h))

  -- ---- the quadratic part
  plain_fields : quadratic_laws.Fields (slot s 1) (slot s 2) (slot s 3) (slot s 4) (slot s 5) (slot s 7)
  plain_fields = record { start = at 1 tt; length = at 2 tt; square = at 3 tt; slope = at 4 tt; height = at 5 tt; total = at 7 tt }

  min_fields : quadratic_laws.Fields (slot s 1) (slot s 11) (slot s 5) (slot s 6) (slot s 7) (slot s 8)
  min_fields = record { start = at 1 tt; length = at 11 tt; square = at 5 tt; slope = at 6 tt; height = at 7 tt; total = at 8 tt }

  min_length : ordinary_divisor (slot s 4 ⊖ slot s 1) ≡ true → Low 40 (slot s 4 ⊖ slot s 1)
  min_length h = divisor_low (slot s 4 ⊖ slot s 1) (difference_within (at 4 tt) (at 1 tt) tt) h

  quadratic_read : (kind : QuadraticKind) → ordinary_quadratic kind s ≡ true → QuadraticRead (quadratic_from kind s)
  unfolding quadratic_from
  quadratic_read quadratic_kind.Absent h = tt
  quadratic_read quadratic_kind.Quadratic h = record { fields = plain_fields; length_low = divisor_low (slot s 2) (at 2 tt) h }
  quadratic_read quadratic_kind.QuadraticMin h = record { fields = min_fields; stretch = at 9 tt; length_low = min_length h; ratio_low = λ split. never split refl }
  quadratic_read quadratic_kind.QuadraticMinSplit h =
      let p = and_split (ordinary_divisor (slot s 4 ⊖ slot s 1)) (ordinary_divisor (slot s 12)) h in
      record { fields = min_fields; stretch = at 9 tt; length_low = min_length p.0; ratio_low = λ split. divisor_low (slot s 12) (at 12 tt) p.1 }

  -- ---- the other part
  convex_fields : ordinary_divisor (slot s 14) ≡ true → convex_laws.Fields (slot s 13) (slot s 14) (slot s 15) (slot s 16) (slot s 17) (slot s 18) (slot s 19)
  convex_fields h = record {
    start = at 13 tt;
    length = at 14 tt;
    prev = at 15 tt;
    next = at 16 tt;
    average = at 17 tt;
    eta = at 18 tt;
    total = at 19 tt;
    length_low = divisor_low (slot s 14) (at 14 tt) h;
  }

  eta_low : ordinary_divisor (slot s 18) ≡ true → Low 40 (slot s 18)
  eta_low h = divisor_low (slot s 18) (at 18 tt) h

  rest_low : ordinary_divisor (one ⊖ slot s 18) ≡ true → Low 40 (one ⊖ slot s 18)
  rest_low h = divisor_low (one ⊖ slot s 18) (difference_within one_within (at 18 tt) tt) h

  fourth_read : ordinary_fourth s ≡ true → Fourth (fourth_in s)
  fourth_read h =
      let p = and_split (ordinary_divisor (slot s 14)) _ h in
      let e = and_split (ordinary_divisor (slot s 18)) (ordinary_divisor (one ⊖ slot s 18)) p.1 in
      record { fields = convex_fields p.0; turn = at 20 tt; eta_low = eta_low e.0; rest_low = rest_low e.1 }

  other_read : (kind : OtherKind) → ordinary_other kind s ≡ true → OtherRead (other_from kind s)
  unfolding other_from
  other_read other_kind.Absent h = tt
  other_read other_kind.EverywhereConstant h = record { held = at 13 tt; total = at 14 tt; start = at 15 tt }
  other_read other_kind.ConstantGrad h = record { height = at 13 tt; total = at 14 tt; start = at 15 tt; slope = at 16 tt }
  other_read other_kind.ConvexMonotone2 h =
      let p = and_split (ordinary_divisor (slot s 14)) (ordinary_divisor (one ⊖ slot s 18)) h in
      record { fields = convex_fields p.0; rest_low = rest_low p.1 }
  other_read other_kind.ConvexMonotone3 h =
      let p = and_split (ordinary_divisor (slot s 14)) (ordinary_divisor (slot s 18)) h in
      record { fields = convex_fields p.0; eta_low = eta_low p.1 }
  other_read other_kind.ConvexMonotone4 h = fourth_read h
  other_read other_kind.ConvexMonotone4Min h = record { base = fourth_read h; ratio = at 21 tt; ratio_low = λ split. never split refl }
  other_read other_kind.ConvexMonotone4MinSplit h =
      let p = and_split (ordinary_fourth s) (ordinary_divisor (slot s 21)) h in
      record { base = fourth_read p.0; ratio = at 21 tt; ratio_low = λ split. divisor_low (slot s 21) (at 21 tt) p.1 }

-- ---- both as one section
joined_read : {w : Float} → Within 80 w → (p : Option QuadraticPart) (o : OtherFound) → QuadraticRead p → OtherRead o → Read (joined w p o)
unfolding joined
joined_read ww None maybe_other.Absent q r = tt
joined_read ww None (maybe_other.Constant s) q r = r
joined_read ww None (maybe_other.Gradient s) q r = r
joined_read ww None (maybe_other.Convex (convex.ConvexMonotone2 c)) q r = r
joined_read ww None (maybe_other.Convex (convex.ConvexMonotone3 c)) q r = r
joined_read ww None (maybe_other.Convex (convex.ConvexMonotone4 c)) q r = r
joined_read ww None (maybe_other.Convex (convex.ConvexMonotone4Min c)) q r = r
joined_read ww (Some (quadratic.Quadratic p)) maybe_other.Absent q r = q
joined_read ww (Some (quadratic.QuadraticMin p)) maybe_other.Absent q r = q
joined_read ww (Some p) (maybe_other.Constant s) q r = tt
joined_read ww (Some p) (maybe_other.Gradient s) q r = tt
joined_read ww (Some p) (maybe_other.Convex c) q r = record { weight = ww; quadratic = q; convex = r }

kinds_read : (s : List Float) → ordinary_slots s ≡ true → (q : Option QuadraticKind) (o : Option OtherKind) →
    of_kinds false (λ q o. ordinary_quadratic q s && ordinary_other o s) q o ≡ true →
    Read (of_kinds None (λ q o. joined (slot s 0) (quadratic_from q s) (other_from o s)) q o)
kinds_read s z (Some q) (Some o) h =
    let d = and_split (ordinary_quadratic q s) (ordinary_other o s) h in
    joined_read (at s z 0 tt) (quadratic_from q s) (other_from o s) (quadratic_read s z q d.0) (other_read s z o d.1)
kinds_read s z (Some q) None h = tt
kinds_read s z None o h = tt

module _ (tag : ℕ) (s : List Float) where
  record_read : ordinary_record tag s ≡ true → Read (read_section tag s)
  unfolding ordinary_record read_section
  record_read h =
      let n = and_split (leb field_count (length s)) _ h in
      let z = and_split (ordinary_slots s) _ n.1 in
      rw (le-ltb (length s) field_count (leb-true field_count (length s) n.0)) (kinds_read s z.0 (quadratic_named tag) (other_named tag) z.1)

  module _ (q : Float) (k : Section) where
    pub ordinary_value : ordinary_record tag s ≡ true → ordinary_size q ≡ true → read_section tag s ≡ Some k → Within 1000 (value k q)
    ordinary_value h o e = section_value (size_within q o) k (rw e at (record_read h))

    pub ordinary_primitive : ordinary_record tag s ≡ true → ordinary_size q ≡ true → read_section tag s ≡ Some k → Within 960 (primitive k q)
    ordinary_primitive h o e = section_primitive (size_within q o) k (rw e at (record_read h))

-- In the safe mode every node and every price of a table is finite, for prices and lengths of any size that a market has.
use Rattle.std.specs.Prelude.{None, Some}
use Prim.Native.Nat.{ℕ, ◌+◌, ◌-◌, ◌*◌, ◌≤◌, ◌<◌, zero-le}
use native.Mathlib.Omega.{arith}
use native.Mathlib.Nat.{mul-one, one-mul, zero-mul, add-zero, zero-add, eq-or-lt_of_le, eq-zero-or-pos}
use mathlib.Core.Bool.{Bool, true, false, ◌&&◌}
use mathlib.Core.List.{List}
use mathlib.Core.Logic.{⊎_elim}
use mathlib.Core.Path.{◌≡◌, refl}
use borrow.Author.Tests.{eqb-false, eq-eqb, ne_eqb}
use lib.IntN.{pos, negsuc}
use lib.Dec.{T, eqb, lit≤}
use lib.Ieee.{Float, binary64, fits, lt, le, up, down, of_bits}
use lib.Ieee.Fits.{sub-fits}
use lib.ListN.{length}
use Rattle.numbers.specs.Sizes.{slot_count}
use Rattle.numbers.specs.Words.{◌⊕◌, ◌⊖◌, ◌⊗◌, ◌⊘◌, zero, half, three_halves, finite}
use Rattle.numbers.proofs.Every.{all_at, and_split}
use Rattle.numbers.proofs.Ways.{never, lt_or_le, of_both, of_each}
use Rattle.numbers.proofs.AtMost.{plus, less, at_most_le, le_of_below}
use Rattle.numbers.proofs.Sums.{sum_not_below}
use Rattle.numbers.proofs.Monotone.{finite_number, not_below, sum_comm}
use Rattle.numbers.proofs.Bounds.{Within, Low, within_finite, wider, sum_within, difference_within, product_within}
use Rattle.numbers.proofs.Low.{low_up, low_above}
use Rattle.numbers.proofs.Ratios.{zero_within, half_within, between_within, unit_within, ratio}
use Rattle.section.specs.Section as section-spec
use Rattle.section.specs.declared.section.Section.{Section}
use Rattle.record.specs.Reading.{record_at}
use Rattle.table.specs.Check.{all_finite, rising, from_zero}
use Rattle.table.specs.Method.{is_safe}
use Rattle.table.specs.Safe.{GivenNotBelow}
use Rattle.table.specs.Table as nodes
use Rattle.table.specs.Table.{at, outer, node_at, first_node, last_node, middle_at, second_last}
use Rattle.table.specs.declared.ends.Frame.{Frame}
use Rattle.table.proofs.Nodes.{node_not_below}
pub use Rattle.choice.proofs.Finite.{Safe}
use Rattle.choice.proofs.Finite.{Ordinary, shortest, longest, highest_node, highest_average, average_within, length_within, length_from, every_price_finite}
use Rattle.assembly.specs.Making.{tags_after, slots_after}
use Rattle.assembly.specs.Sections.{period_at, section_at}
use Rattle.assembly.proofs.ReadBack.{record_read_back}

-- periods from the shortest to the longest, and averages, where they are read, to the highest
pub record OrdinaryTable (x y : List Float) : Type 0 where
  pub long : (i : ℕ) → i < length x - 1 → le shortest (at x (i + 1) ⊖ at x i) ≡ true
  pub short : (i : ℕ) → i < length x - 1 → le (at x (i + 1) ⊖ at x i) longest ≡ true
  pub high : (i : ℕ) → i < length x - 1 → le (at y (i + 1)) highest_average ≡ true

-- the safe mode, with no seam and both ends free
pub record FreeFrame (frame : Frame) : Type 0 where
  pub safe : Safe frame.method
  pub seam : frame.seam ≡ None
  pub left : frame.left ≡ None
  pub right : frame.right ≡ None

three_halves_within : Within 1 three_halves
unfolding of_bits
three_halves_within = record { sign = false; part = 3; power = negsuc 0; is = refl; size = lit≤ tt }

-- what is within 2 ^ 152 is at most that
at_most_highest : {x : Float} → Within 152 x → le x highest_node ≡ true
unfolding of_bits
at_most_highest w = rw w.is (at_most_le w.sign w.part w.power false 1 (pos 152) (by w.sign))
  where
    by : (s : Bool) → plus s (w.part * up w.power) * down (pos 152) + less false (1 * up (pos 152)) * down w.power
        ≤ plus false (1 * up (pos 152)) * down w.power + less s (w.part * up w.power) * down (pos 152)
    by true = simp (zero-mul, zero-add) zero-le
    by false = simp (mul-one, one-mul, zero-mul, add-zero) w.size

-- ---- the length of a period, and its share in the two that meet at a knot
pub record Length (d : Float) : Type 0 where
  pub within : Within 400 d
  pub low : Low 400 d
  pub fit : T (fits binary64 d)

length_of : (a b : Float) → le shortest (b ⊖ a) ≡ true → le (b ⊖ a) longest ≡ true → Length (b ⊖ a)
length_of a b h l = record { within = length_within (b ⊖ a) h l; low = length_from (b ⊖ a) h l; fit = sub-fits binary64 b a }

from_zero_lem : {d : Float} → Length d → le zero d ≡ true
from_zero_lem {d} a = le_of_below zero d (low_above a.low)

pub shares : {d p : Float} → Length d → Length p → Within 0 (d ⊘ (d ⊕ p)) × Within 0 (p ⊘ (d ⊕ p))
shares {d} {p} a b = (share d (from_zero_lem a) first, share p (from_zero_lem b) (rw (sum_comm d p) (sum_not_below p d b.fit (within_finite b.within) (from_zero_lem a))))
  where
    both : finite (d ⊕ p) ≡ true
    both = within_finite (sum_within a.within b.within tt)

    first : le d (d ⊕ p) ≡ true
    first = sum_not_below d p a.fit (within_finite a.within) (from_zero_lem b)

    share : (c : Float) → le zero c ≡ true → le c (d ⊕ p) ≡ true → Within 0 (c ⊘ (d ⊕ p))
    share c z l = let r = ratio c (d ⊕ p) both z l (low_above (low_up (d ⊕ p) a.low first both)) in unit_within (c ⊘ (d ⊕ p)) r.0 r.1

pub outer_within : (positive : Bool) (y f : Float) → Within 150 y → Within 151 f → Within 152 (outer positive y f)
outer_within positive y f v w =
    let g = three_halves ⊗ y ⊖ half ⊗ f in
    of_both (Within 152) (positive && lt g zero) zero g (wider zero_within tt) (difference_within (product_within three_halves_within v tt) (product_within half_within w tt) tt)

-- a place that is neither the first nor the last
pub inside : (i n : ℕ) → i < n → eqb i 0 ≡ false → eqb i (n - 1) ≡ false → (0 < i) × (i < n - 1)
inside i n l p q = (
  ⊎_elim (λ (e : i ≡ 0). absurd (eqb-false i 0 p e)) (λ (h : 0 < i). h) (eq-zero-or-pos i),
  ⊎_elim (λ (e : i ≡ n - 1). absurd (eqb-false i (n - 1) q e)) (λ (h : i < n - 1). h) (eq-or-lt_of_le (omega (arith, l))),
)

-- the record at place i holds a section whose every price between its knots is finite
pub record FiniteAt (x : List Float) (tags : List ℕ) (slots : List Float) (i : ℕ) : Type 0 where
  pub section : Section
  pub held : record_at tags slots i ≡ Some section
  pub priced : (q : Float) → le (at x i) q ≡ true → le q (at x (i + 1)) ≡ true → finite (section-spec.value section q) ≡ true

module _ (x y : List Float) (frame : Frame) (same : length x ≡ length y) (knots : all_finite x ≡ true) (rise : rising x ≡ true) (signs : from_zero y ≡ true)
    (sizes : OrdinaryTable x y) where
  -- the average of the period that ends at knot i + 1
  average_low : (i : ℕ) → i < length x - 1 → le zero (at y (i + 1)) ≡ true
  unfolding from_zero
  average_low i l = all_at (length y - 1) (λ k. le zero (at y (k + 1))) signs i (omega (arith, l, same))

  read_within : (i : ℕ) → i < length x - 1 → Within 150 (at y (i + 1))
  read_within i l = between_within (at y (i + 1)) average_within (average_low i l) (sizes.high i l)

  period_length : (i : ℕ) → i < length x - 1 → Length (at x (i + 1) ⊖ at x i)
  period_length i l = length_of (at x i) (at x (i + 1)) (sizes.long i l) (sizes.short i l)

  module _ (points : 3 ≤ length x) (free : FreeFrame frame) where
    -- ---- the nodes
    middle_within : (i : ℕ) → 0 < i → i < length x - 1 → Within 151 (middle_at x y frame i)
    unfolding middle_at
    middle_within i p l =
        let e : i - 1 + 1 ≡ i = omega arith in
        let before : i - 1 < length x - 1 = omega arith in
        let s = shares (period_length i l) (rw e at (period_length (i - 1) before)) in
        rw free.seam (sum_within (product_within s.0 (rw e at (read_within (i - 1) before)) tt) (product_within s.1 (read_within i l) tt) tt)

    not_two : eqb (length x) 2 ≡ false
    not_two = ne_eqb (length x) 2 (λ e. omega (arith, e, points))

    second_within : Within 151 (nodes.second x y frame)
    unfolding nodes.second
    second_within = rw not_two (middle_within 1 (omega arith) (omega (arith, points)))

    second_last_within : Within 151 (second_last x y frame)
    unfolding second_last
    second_last_within = rw not_two (middle_within (length x - 2) (omega (arith, points)) (omega (arith, points)))

    first_within : Within 152 (first_node x y frame)
    unfolding first_node
    first_within =
        rw free.left (outer_within frame.method.force_positive (at y 1) (nodes.second x y frame) (read_within 0 (omega (arith, points))) second_within)

    last_within : Within 152 (last_node x y frame)
    unfolding last_node
    last_within =
        let e : length x - 2 + 1 ≡ length x - 1 = omega (arith, points) in
        rw free.right
        (outer_within frame.method.force_positive (at y (length x - 1)) (second_last x y frame) (rw e at (read_within (length x - 2) (omega (arith, points)))) second_last_within)

    node_within : (i : ℕ) → i < length x → Within 152 (node_at x y frame i)
    unfolding node_at
    node_within i l =
        of_each (Within 152) (eqb i 0) _ _ (λ h. first_within)
        (λ h. of_each (Within 152) (eqb i (length x - 1)) _ _ (λ k. last_within) (λ k. let r = inside i (length x) l h k in wider (middle_within i r.0 r.1) tt))

    positive : frame.method.force_positive ≡ true
    positive = (and_split (is_safe frame.method.split) frame.method.force_positive free.safe.safe).1

    ends : GivenNotBelow frame
    ends = record { seam = rw free.seam tt; left = rw free.left tt; right = rw free.right tt }

    pub node_from_zero : (i : ℕ) → i < length x → le zero (node_at x y frame i) ≡ true
    node_from_zero i l =
        not_below (node_at x y frame i) zero (finite_number (node_at x y frame i) (within_finite (node_within i l))) (finite_number zero (within_finite zero_within))
        (node_not_below x y frame positive same rise signs ends i l)

    pub node_high : (i : ℕ) → i < length x → le (node_at x y frame i) highest_node ≡ true
    node_high i l = at_most_highest (node_within i l)

    -- ---- the periods
    pub period_ordinary : (i : ℕ) → i < length x - 1 → Ordinary (period_at x y frame i)
    unfolding all_finite
    period_ordinary i l =
        let known : (k : ℕ) → k < length x → finite (at x k) ≡ true = all_at (length x) (λ k. finite (at x k)) knots in
        let here : i < length x = omega arith in
        let next : i + 1 < length x = omega arith in
        record {
          left = known i here;
          right = known (i + 1) next;
          long = sizes.long i l;
          short = sizes.short i l;
          prev_low = node_from_zero i here;
          prev_high = node_high i here;
          next_low = node_from_zero (i + 1) next;
          next_high = node_high (i + 1) next;
          average_low = average_low i l;
          average_high = sizes.high i l;
        }

  -- A held last period is worth its average; so is the only one of two points, which is held.
  module _ (free : 3 ≤ length x → FreeFrame frame) (held : length x ≡ 2 → frame.hold ≡ true) (i : ℕ) (l : i < length x - 1) where
    more : frame.hold && eqb i (length x - 2) ≡ false → 3 ≤ length x
    more h =
        ⊎_elim
        (λ (few : length x < 3). never (rw (held (omega (arith, few, l)), eq-eqb i (length x - 2) (omega (arith, few, l))) refl) h)
        (λ (points : 3 ≤ length x). points)
        (lt_or_le (length x) 3)

    pub table_finite : (q : Float) → le (at x i) q ≡ true → le q (at x (i + 1)) ≡ true → finite (section-spec.value (section_at x y frame i) q) ≡ true
    unfolding section_at section-spec.value
    table_finite q after before =
        of_each (λ (s : Section). finite (section-spec.value s q) ≡ true) (frame.hold && eqb i (length x - 2)) _ _ (λ h. within_finite (read_within i l))
        (λ h. every_price_finite frame.method (period_at x y frame i) q (free (more h)).safe (period_ordinary (more h) (free (more h)) i l) after before)

    -- as the records are left in buffers that have room for them
    pub records_finite : (tags : List ℕ) (slots : List Float) → length x - 1 ≤ length tags → slot_count * (length x - 1) ≤ length slots →
        FiniteAt x (tags_after 0 x y frame tags) (slots_after 0 x y frame slots) i
    records_finite tags slots t s = record { section = section_at x y frame i; held = record_read_back x y frame i tags slots l t s; priced = table_finite }

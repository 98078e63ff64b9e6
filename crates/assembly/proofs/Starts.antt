-- 02, K1: at its own left knot each section of a table of ordinary size that is not split, or split in the usual way, gives back the total before it.
-- In every mode, with a seam or none, held or not. Where a total is finite, so are those before it.
use Rattle.std.specs.Prelude.{None, Option, Some}
use Prim.Native.Nat as nat
use Prim.Native.Nat.{ℕ, suc, ◌+◌, ◌-◌, ◌≤◌, ◌<◌}
use native.Mathlib.Omega.{arith}
use native.Mathlib.Nat.{add-zero, eq-or-lt_of_le}
use native.Mathlib.Numerals.{add-one}
use mathlib.Core.Bool.{true, false, ◌&&◌}
use mathlib.Core.List.{List}
use mathlib.Core.Logic.{⊎_elim}
use mathlib.Core.Path.{◌≡◌, refl, sym}
use borrow.Author.Tests.{eqb-false, eq-eqb}
use lib.IntN.{pos}
use lib.Dec.{eqb, lit≤}
use lib.Ieee.{Float, binary64, lt, le, neg, of_bits}
use lib.Ieee.Fits.{sub-fits, mul-fits}
use lib.ListN.{length}
use Rattle.numbers.specs.Words.{◌⊖◌, zero, finite}
use Rattle.numbers.proofs.Every.{all_at, and_split}
use Rattle.numbers.proofs.Ways.{never, of_both, of_each}
use Rattle.numbers.proofs.AtMost.{le_on, le_of_below}
use Rattle.numbers.proofs.Bounds.{Within, within_finite, wider, sum_within, difference_within, product_within}
use Rattle.numbers.proofs.Low.{low_up}
use Rattle.numbers.proofs.Ratios.{zero_within}
use Rattle.numbers.proofs.Sided.{sided_within}
use Rattle.numbers.proofs.Sums.{sum_finite_left}
use Rattle.numbers.proofs.Totals.{Total, zero_total, total_more}
use Rattle.section.specs.Section as section
use Rattle.table.specs.Check.{rising}
use Rattle.table.specs.Table as nodes
use Rattle.table.specs.Table.{at, seamed, node_at, first_node, last_node, middle_at, second_last, total_at}
use Rattle.table.specs.declared.ends.Frame.{Frame}
use Rattle.table.specs.declared.ends.Seam.{Seam}
use Rattle.choice.proofs.Finite.{average_within, shortest_low}
use Rattle.choice.proofs.Starts.{Modest, Gives, constant_gives, section_gives}
use Rattle.assembly.specs.Sections.{period_at, section_at}
use Rattle.assembly.specs.Starts.{unusual_in, start_of, farthest_knot, shortest, highest, almost_one, knots_modest, method_modest, price_modest, seam_modest, period_modest, modest, HeldOrFree}
use Rattle.assembly.proofs.Finite.{Length, shares, outer_within, inside}

farthest_within : Within 398 farthest_knot
unfolding of_bits
farthest_within = record { sign = false; part = 1; power = pos 398; is = refl; size = lit≤ tt }

price_within : (y : Float) → price_modest y ≡ true → Within 150 y
price_within y h = let p = and_split (le (neg highest) y) (le y highest) h in sided_within y average_within p.0 p.1

seamed_within : (s : Option Seam) (i : ℕ) (f : Float) → seam_modest s ≡ true → Within 151 f → Within 151 (seamed s i f)
seamed_within None i f h w = w
seamed_within (Some s) i f h w = of_both (Within 151) (eqb i s.count) s.node f (wider (price_within s.node h) tt) w

-- ---- the totals: those that start from +0.0, and where one is finite, so are those before it
pub total_kept : (x y : List Float) (frame : Frame) → frame.start ≡ zero → (i : ℕ) → Total (total_at x y frame i)
unfolding total_at
total_kept x y frame start nat.zero = rw start zero_total
total_kept x y frame start (suc i) = total_more _ (total_kept x y frame start i) (mul-fits binary64 (at y (i + 1)) (at x (i + 1) ⊖ at x i))

pub totals_finite : (x y : List Float) (frame : Frame) (i k : ℕ) → finite (total_at x y frame (i + k)) ≡ true → finite (total_at x y frame i) ≡ true
unfolding total_at
totals_finite x y frame i nat.zero h = rw (add-zero i) at h
totals_finite x y frame i (suc k) h =
    let e : i + suc k ≡ suc (i + k) = omega arith in
    totals_finite x y frame i k (sum_finite_left (total_at x y frame (i + k)) _ (rw e at h))

-- ---- what the one test says
record Parts (x y : List Float) (frame : Frame) : Type 0 where
  first : le (neg farthest_knot) (at x 0) ≡ true
  last : le (at x (length x - 1)) farthest_knot ≡ true
  from_zero : le zero frame.method.monotonicity ≡ true
  below_one : le frame.method.monotonicity almost_one ≡ true
  seam : seam_modest frame.seam ≡ true
  period : (i : ℕ) → i < length x - 1 → period_modest x y i ≡ true

parts : (x y : List Float) (frame : Frame) → modest x y frame ≡ true → Parts x y frame
unfolding modest
parts x y frame h =
    let a = and_split (knots_modest x) _ h in
    let b = and_split (method_modest frame.method) _ a.1 in
    let c = and_split (seam_modest frame.seam) _ b.1 in
    let ends = and_split (le (neg farthest_knot) (at x 0)) _ a.0 in
    let settings = and_split (le zero frame.method.monotonicity) _ b.0 in
    record {
      first = ends.0;
      last = ends.1;
      from_zero = settings.0;
      below_one = settings.1;
      seam = c.0;
      period = all_at (length x - 1) (period_modest x y) c.1;
    }

module _ (x y : List Float) (frame : Frame) (rise : rising x ≡ true) (given : Parts x y frame) where
  -- ---- the knots lie between the first and the last
  rises : (i : ℕ) → i < length x - 1 → le (at x i) (at x (i + 1)) ≡ true
  unfolding rising
  rises i l = le_of_below (at x i) (at x (i + 1)) (all_at (length x - 1) (λ k. lt (at x k) (at x (k + 1))) rise i l)

  knot_low : (i : ℕ) → i < length x → le (neg farthest_knot) (at x i) ≡ true
  knot_low nat.zero l = given.first
  knot_low (suc i) l = le_on (neg farthest_knot) (at x i) (at x (suc i)) (knot_low i (omega arith)) (rw add-one at (rises i (omega arith)))

  knot_high : (k i : ℕ) → i + k ≡ length x - 1 → le (at x i) farthest_knot ≡ true
  knot_high nat.zero i e = let same : i ≡ length x - 1 = omega arith in rw same given.last
  knot_high (suc k) i e = le_on (at x i) (at x (i + 1)) farthest_knot (rises i (omega arith)) (knot_high k (i + 1) (omega arith))

  knot_within : (i : ℕ) → i < length x → Within 398 (at x i)
  knot_within i l = sided_within (at x i) farthest_within (knot_low i l) (knot_high (length x - 1 - i) i (omega arith))

  -- ---- the lengths and the averages
  length_of : (i : ℕ) → i < length x - 1 → Length (at x (i + 1) ⊖ at x i)
  length_of i l =
      let within = difference_within (knot_within (i + 1) (omega arith)) (knot_within i (omega arith)) tt in
      let long = (and_split (price_modest (at y (i + 1))) (le shortest (at x (i + 1) ⊖ at x i)) (given.period i l)).1 in
      record { within = wider within tt; low = low_up (at x (i + 1) ⊖ at x i) shortest_low long (within_finite within); fit = sub-fits binary64 (at x (i + 1)) (at x i) }

  read_within : (i : ℕ) → i < length x - 1 → Within 150 (at y (i + 1))
  read_within i l = price_within (at y (i + 1)) (and_split (price_modest (at y (i + 1))) _ (given.period i l)).0

  -- ---- the nodes, where both ends are free
  middle_within : (i : ℕ) → 0 < i → i < length x - 1 → Within 151 (middle_at x y frame i)
  unfolding middle_at
  middle_within i p l =
      let e : i - 1 + 1 ≡ i = omega arith in
      let before : i - 1 < length x - 1 = omega arith in
      let s = shares (length_of i l) (rw e at (length_of (i - 1) before)) in
      seamed_within frame.seam i _ given.seam
      (sum_within (product_within s.0 (rw e at (read_within (i - 1) before)) tt) (product_within s.1 (read_within i l) tt) tt)

  module _ (left : frame.left ≡ None) (right : frame.right ≡ None) (two : 2 ≤ length x) where
    more : eqb (length x) 2 ≡ false → 3 ≤ length x
    more h = ⊎_elim (λ (e : 2 ≡ length x). absurd (eqb-false (length x) 2 h (sym e))) (λ (l : 2 < length x). l) (eq-or-lt_of_le two)

    second_within : Within 151 (nodes.second x y frame)
    unfolding nodes.second
    second_within =
        of_each (Within 151) (eqb (length x) 2) _ _ (λ h. rw right (wider zero_within tt)) (λ h. middle_within 1 (omega arith) (omega (arith, more h)))

    second_last_within : Within 151 (second_last x y frame)
    unfolding second_last
    second_last_within =
        of_each (Within 151) (eqb (length x) 2) _ _ (λ h. rw left (wider zero_within tt))
        (λ h. middle_within (length x - 2) (omega (arith, more h)) (omega (arith, more h)))

    first_within : Within 152 (first_node x y frame)
    unfolding first_node
    first_within = rw left (outer_within frame.method.force_positive (at y 1) (nodes.second x y frame) (read_within 0 (omega arith)) second_within)

    last_within : Within 152 (last_node x y frame)
    unfolding last_node
    last_within =
        let e : length x - 2 + 1 ≡ length x - 1 = omega arith in
        rw right
        (outer_within frame.method.force_positive (at y (length x - 1)) (second_last x y frame) (rw e at (read_within (length x - 2) (omega arith))) second_last_within)

    node_within : (i : ℕ) → i < length x → Within 152 (node_at x y frame i)
    unfolding node_at
    node_within i l =
        of_each (Within 152) (eqb i 0) _ _ (λ h. first_within)
        (λ h. of_each (Within 152) (eqb i (length x - 1)) _ _ (λ k. last_within) (λ k. let r = inside i (length x) l h k in wider (middle_within i r.0 r.1) tt))

  module _ (start : frame.start ≡ zero) (ok : HeldOrFree x frame) (i : ℕ) (l : i < length x - 1) where
    before : Total (total_at x y frame i)
    before = total_kept x y frame start i

    period_modest_lem : frame.left ≡ None → frame.right ≡ None → Modest (period_at x y frame i)
    period_modest_lem left right = record {
      left = within_finite (knot_within i (omega arith));
      length = (length_of i l).within;
      long = (length_of i l).low;
      prev = node_within left right (omega arith) i (omega arith);
      next = node_within left right (omega arith) (i + 1) (omega arith);
      average = read_within i l;
      total = before;
    }

    section_starts : Gives (total_at x y frame i) (at x i) (section_at x y frame i)
    unfolding section_at
    section_starts =
        of_each (Gives (total_at x y frame i) (at x i)) (frame.hold && eqb i (length x - 2)) _ _
        (λ h. constant_gives (at y (i + 1)) (total_at x y frame i) (at x i) (read_within i l) before (within_finite (knot_within i (omega arith))))
        (λ h.
        ⊎_elim
        (λ two. never (rw (two.1, eq-eqb i (length x - 2) (omega (arith, two.0))) refl) h)
        (λ free. section_gives frame.method (period_at x y frame i) given.from_zero given.below_one (period_modest_lem free.0 free.1))
        ok)

pub usual_starts : (x y : List Float) (frame : Frame) → rising x ≡ true → frame.start ≡ zero → HeldOrFree x frame → modest x y frame ≡ true → (i : ℕ) → i < length x - 1 →
    unusual_in (at x i) (section_at x y frame i) ≡ false → section.primitive (section_at x y frame i) (at x i) ≡ start_of (total_at x y frame i) (section_at x y frame i)
usual_starts x y frame rise start ok test i l = section_starts x y frame rise (parts x y frame test) start ok i l

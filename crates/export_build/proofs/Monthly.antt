-- What crosses the boundary of delivery months, by the tests that led there.
use Rattle.std.specs.Prelude.{Err, Ok, Option}
use Prim.Native.Nat.{ℕ, ◌≤◌, ◌<◌}
use mathlib.Core.Bool.{Bool, true, false}
use mathlib.Core.List.{List}
use mathlib.Core.Path.{◌≡◌, refl, sym, ap, ◌∙◌}
use borrow.Author.Tests.{lt-ltb, le-ltb}
use lib.Ieee.{Float}
use lib.IntN.{ℤ}
use lib.ListN.{length, set}
use mir.Syntax.{w64}
use mir.Val.{SFits, to_z, of_z}
use mir.ValLaws.{to_z-of_z}
use Rattle.numbers.specs.OneOutcome.{pair}
use Rattle.refusal.specs.Refusal.{number, Verdict}
use Rattle.refusal.specs.declared.Refusal.{Refusal}
use Rattle.refusal.specs.declared.Refusal.TheVariants.{MonthsNotPeriods, BufferTooShort, SplitUnknown}
use Rattle.table.specs.Buffers.{Buffers}
use Rattle.table.specs.declared.method.ConvexMonotone.{ConvexMonotone}
use Rattle.table.specs.declared.ends.Seam.{Seam}
use Rattle.curve.specs.Build.{curve_of}
use Rattle.curve.specs.Curve.{curve_in_numbers}
use Rattle.months.specs.Building.{Monthly, months_verdict, monthly_by, monthly_built, monthly_outcome}
use Rattle.months.specs.Knots.{knots_made, room_test, MonthKnots}
use Rattle.months.specs.Periods.{months_test, periods_asked, periods_of}
use Rattle.months.specs.declared.periods.Size.{Size}
use Rattle.months.specs.declared.periods.Periods.{Periods}
use Rattle.months.proofs.Whole.{was_whole, was_refused}
use Rattle.export_build.specs.Building.{no_answer, short_refusal, count_left, tail_left}
use Rattle.export_build.specs.ByMonths.{no_size, size_of, not_periods, knots_across, months_across}
use Rattle.export_build.specs.Steps.{last_refusal, after_months}

-- 19, or another refusal that is sure
module _ (from to : ℤ) (size : Size) (other : Refusal) (n : ℕ) where
  pub months_first : (r : Refusal) → periods_of from to size ≡ Err r → n ≡ number r → n ≡ after_months from to size other
  months_first r e f = let (none, is) = was_refused from to size r e in rw (none, f, is)

  pub months_passed : (p : Periods) → periods_of from to size ≡ Ok p → n ≡ number other → n ≡ after_months from to size other
  months_passed p e f = let (whole, _) = was_whole from to size p e in rw (whole, f)

-- the knots
module _ (from to : ℤ) (months : ℕ) (knots : List Float) (count : List ℕ) (n : ℕ) where
  pub knots_no_size : no_size months ≡ true → n ≡ number MonthsNotPeriods → record { refusal = n; knots = knots; count = count } ≡ knots_across from to months knots count
  knots_no_size h e = rw (h, e)

  module _ (known : no_size months ≡ false) where
    pub knots_no_count : length count < 1 → n ≡ after_months from to (size_of months) BufferTooShort → record { refusal = n; knots = knots; count = count } ≡ knots_across from to months knots count
    knots_no_count h e = by (months_test from to (size_of months)).holds refl (room_test (periods_asked from to (size_of months)) (length knots)).holds refl
      where
        by : (t : Bool) → (months_test from to (size_of months)).holds ≡ t → (k : Bool) → (room_test (periods_asked from to (size_of months)) (length knots)).holds ≡ k →
            record { refusal = n; knots = knots; count = count } ≡ knots_across from to months knots count
        by true ht k hk = rw (known, e, ht)
        by false ht true hk = rw (known, e, ht, hk)
        by false ht false hk = rw (known, e, ht, hk, lt-ltb _ _ h)

    module _ (answer : MonthKnots) (new : List Float) (e : pair answer new ≡ knots_made from to (size_of months) knots) where
      pub knots_refused : (r : Refusal) → answer ≡ Err r → n ≡ number r → record { refusal = n; knots = new; count = count } ≡ knots_across from to months knots count
      knots_refused r g f = rw (known, sym e, g, f)

      pub knots_made_lem : (k : ℕ) → answer ≡ Ok k → 1 ≤ length count → record { refusal = 0; knots = new; count = set count 0 k } ≡ knots_across from to months knots count
      knots_made_lem k g h = rw (known, sym e, g, le-ltb _ _ h)

-- a curve
module _ (from to : ℤ) (months : ℕ) (y : List Float) (method : ConvexMonotone) (hold : Bool) (seam : Option Seam) (knots : List Float) (b : Buffers) (sections : List ℕ) (tail : List Float) (is_unknown : Bool) where
  abbrev out : Monthly
  out = monthly_outcome from to (size_of months) y method hold seam knots b

  abbrev holds : Bool
  holds = (months_test from to (size_of months)).holds

  pub months_no_size : (n : ℕ) → no_size months ≡ true → n ≡ number MonthsNotPeriods →
      record { refusal = n; knots = knots; buffers = b; sections = sections; tail = tail } ≡ months_across (not_periods from to months) is_unknown knots b sections tail out
  months_no_size n h e = rw (h, e)

  module _ (known : no_size months ≡ false) where
    pub months_no_split : (n : ℕ) → is_unknown ≡ true → n ≡ after_months from to (size_of months) SplitUnknown →
        record { refusal = n; knots = knots; buffers = b; sections = sections; tail = tail } ≡ months_across (not_periods from to months) is_unknown knots b sections tail out
    months_no_split n u e = by holds refl
      where
        by : (t : Bool) → holds ≡ t → record { refusal = n; knots = knots; buffers = b; sections = sections; tail = tail } ≡ months_across (not_periods from to months) is_unknown knots b sections tail out
        by true h = rw (known, e, h)
        by false h = rw (known, e, h, u)

    module _ (split : is_unknown ≡ false) where
      pub months_short : (n : ℕ) → no_answer (length sections) (length tail) ≡ true → n ≡ short_refusal out.answer →
          record { refusal = n; knots = knots; buffers = b; sections = sections; tail = tail } ≡ months_across (not_periods from to months) is_unknown knots b sections tail out
      months_short n a e = by holds refl
        where
          by : (t : Bool) → holds ≡ t → record { refusal = n; knots = knots; buffers = b; sections = sections; tail = tail } ≡ months_across (not_periods from to months) is_unknown knots b sections tail out
          by true h = rw (known, e, h)
          by false h = rw (known, split, a, e, h)

      pub months_roomy : (o : Monthly) (n : ℕ) (s : List ℕ) (t : List Float) → no_answer (length sections) (length tail) ≡ false → o ≡ out →
          (n ≡ (curve_in_numbers o.answer).refusal) × ((s ≡ count_left o.answer sections) × (t ≡ tail_left o.answer tail)) →
          record { refusal = n; knots = o.knots; buffers = o.buffers; sections = s; tail = t } ≡ months_across (not_periods from to months) is_unknown knots b sections tail out
      months_roomy o n s t a e (p, (q, r)) = by holds refl
        where
          by : (t' : Bool) → holds ≡ t' → record { refusal = n; knots = o.knots; buffers = o.buffers; sections = s; tail = t } ≡ months_across (not_periods from to months) is_unknown knots b sections tail out
          by true h = rw (p, q, r, e, known, h)
          by false h = rw (p, q, r, e, known, split, a, h)

-- the refusal where there is no room for the answers
pub months_last : (from to : ℤ) (size : Size) (y : List Float) (method : ConvexMonotone) (hold : Bool) (seam : Option Seam) (knots : List Float) (b : Buffers) (v : Verdict) (n : ℕ) →
    v ≡ months_verdict from to size y method seam (length knots) (length b.nodes) (length b.tags) (length b.slots) → n ≡ last_refusal v → n ≡ short_refusal (monthly_outcome from to size y method hold seam knots b).answer
unfolding curve_of
months_last from to size y method hold seam knots b v n e f = f ∙ ap last_refusal e ∙ by (months_verdict from to size y method seam (length knots) (length b.nodes) (length b.tags) (length b.slots))
  where
    by : (w : Verdict) → last_refusal w ≡ short_refusal (monthly_by w knots b (monthly_built (periods_asked from to size) y method hold seam knots b)).answer
    by (Ok tt) = refl
    by (Err r) = refl

-- what is built with the months, the settings and the seam that came across
pub same_months : (from to : ℤ) (f : SFits w64 from) (g : SFits w64 to) (s t : Size) (y : List Float) (m n : ConvexMonotone) (hold : Bool) (i j : Option Seam) (knots : List Float) (b : Buffers) → s ≡ t → m ≡ n → i ≡ j →
    monthly_outcome (to_z w64 (of_z w64 from)) (to_z w64 (of_z w64 to)) s y m hold i knots b ≡ monthly_outcome from to t y n hold j knots b
same_months from to f g s t y m n hold i j knots b e h k = rw (to_z-of_z w64 from f, to_z-of_z w64 to g, e, h, k)

pub same_verdict : (from to : ℤ) (f : SFits w64 from) (g : SFits w64 to) (s t : Size) (y : List Float) (m n : ConvexMonotone) (i j : Option Seam) (knots nodes tags slots : ℕ) → s ≡ t → m ≡ n → i ≡ j →
    months_verdict (to_z w64 (of_z w64 from)) (to_z w64 (of_z w64 to)) s y m i knots nodes tags slots ≡ months_verdict from to t y n j knots nodes tags slots
same_verdict from to f g s t y m n i j knots nodes tags slots e h k = rw (to_z-of_z w64 from f, to_z-of_z w64 to g, e, h, k)

pub same_knots : (from to : ℤ) (f : SFits w64 from) (g : SFits w64 to) (s t : Size) (knots : List Float) → s ≡ t →
    knots_made (to_z w64 (of_z w64 from)) (to_z w64 (of_z w64 to)) s knots ≡ knots_made from to t knots
same_knots from to f g s t knots e = rw (to_z-of_z w64 from f, to_z-of_z w64 to g, e)

pub same_after : (from to : ℤ) (f : SFits w64 from) (g : SFits w64 to) (s t : Size) (other : Refusal) → s ≡ t →
    after_months (to_z w64 (of_z w64 from)) (to_z w64 (of_z w64 to)) s other ≡ after_months from to t other
same_after from to f g s t other e = rw (to_z-of_z w64 from f, to_z-of_z w64 to g, e)

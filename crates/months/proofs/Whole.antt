-- Whole periods lie in the calendar, and their last knot is the month after the last.
use Rattle.std.specs.Prelude.{Err, Ok}
use Prim.Native.Nat.{ℕ, zero, suc, ◌+◌, ◌-◌, ◌*◌, ◌/◌, ◌%◌, ◌≤◌, ◌<◌}
use native.Mathlib.Omega.{arith}
use native.Mathlib.Nat.{div-add-mod', zero-mul}
use mathlib.Core.Path.{◌≡◌, refl, sym, ap, subst, ◌∙◌}
use mathlib.Core.Bool.{Bool, true, false, cond}
use lib.Dec.{ltb, leb, lit<}
use lib.IntN.{ℤ}
use mir.Syntax.{w64}
use mir.Val.{SFits, to_z, of_z}
use mir.ValLaws.{to_z-of_z}
use borrow.Author.Tests.{ltb-true, leb-true, eqb-true}
use Rattle.numbers.proofs.Every.{and_split}
use Rattle.numbers.proofs.Ways.{never}
use Rattle.months.specs.Calendar.{divides}
use Rattle.months.specs.Periods.{months_in, place_of, are_periods, periods_from, periods_asked, periods_of, Ordered}
use Rattle.months.specs.Steps.{InCalendar}
use Rattle.refusal.specs.declared.Refusal.{Refusal}
use Rattle.refusal.specs.declared.Refusal.TheVariants.{MonthsNotPeriods}
use Rattle.months.specs.declared.periods.Periods.{Periods}
use Rattle.months.specs.declared.periods.Size.{Size}
use Rattle.months.specs.declared.periods.Size.TheVariants.{Month, Quarter, Year}

pub some_months : (s : Size) → 0 < months_in s
some_months Month = lit< tt
some_months Quarter = lit< tt
some_months Year = lit< tt

pub months_few : (s : Size) → months_in s ≤ 12
months_few Month = omega arith
months_few Quarter = omega arith
months_few Year = omega arith

module _ (a b n : ℕ) (h : are_periods a b n ≡ true) where
  parts : (ltb b 1200 ≡ true) × (leb a b ≡ true) × (divides n a ≡ true) × (divides n (b + 1 - a) ≡ true)
  parts =
      let (inside, rest) = and_split _ _ h in
      let (up, starts) = and_split _ _ rest in
      let (start, whole) = and_split _ _ starts in
      (inside, up, start, whole)

  pub last_in : b < 1200
  last_in = ltb-true b 1200 parts.0

  pub first_to_last : a ≤ b
  first_to_last = leb-true a b parts.1

  -- all months of the periods, and no other
  pub months_all : (b + 1 - a) / n * n ≡ b + 1 - a
  months_all =
      let left : (b + 1 - a) % n ≡ 0 = eqb-true _ 0 parts.3 in
      let all = div-add-mod' (b + 1 - a) n in
      omega (arith, left, all)

  -- the last knot is the month after the last
  pub last_knot : a + (b + 1 - a) / n * n ≡ b + 1
  last_knot = omega (arith, months_all, first_to_last)

  -- there is a period
  pub some_period : 0 < (b + 1 - a) / n
  some_period = above ((b + 1 - a) / n) months_all
    where
      above : (q : ℕ) → q * n ≡ b + 1 - a → 0 < q
      above zero e = let z = zero-mul n in absurd (omega (arith, e, z, first_to_last))
      above (suc q) e = omega arith

  pub in_calendar : 0 < n → InCalendar (periods_from a b n)
  in_calendar p =
      let one_less : (b + 1 - a) / n + 1 - 1 ≡ (b + 1 - a) / n = omega arith in
      (p, omega (arith, some_period), rw one_less (omega (arith, last_knot, last_in)))

-- Of an answer that is known.
abbrev is_whole : Ordered → Bool
is_whole (Ok p) = true
is_whole (Err r) = false

abbrev whole_or : Periods → Ordered → Periods
whole_or q (Ok p) = p
whole_or q (Err r) = q

abbrev refusal_or : Refusal → Ordered → Refusal
refusal_or q (Ok p) = q
refusal_or q (Err r) = r

module _ (first last : ℤ) (size : Size) where
  abbrev periods : Bool
  periods = are_periods (place_of first) (place_of last) (months_in size)

  abbrev by : Bool → Ordered
  by b = cond b (Ok (periods_asked first last size)) (Err MonthsNotPeriods)

  pub was_whole : (p : Periods) → periods_of first last size ≡ Ok p → (periods ≡ true) × (p ≡ periods_asked first last size)
  was_whole p e = go periods refl e
    where
      go : (b : Bool) → periods ≡ b → by b ≡ Ok p → (periods ≡ true) × (p ≡ periods_asked first last size)
      go true h e = (h, sym (ap (whole_or p) e))
      go false h e = never (ap is_whole e) refl

  pub was_refused : (r : Refusal) → periods_of first last size ≡ Err r → (periods ≡ false) × (r ≡ MonthsNotPeriods)
  was_refused r e = go periods refl e
    where
      go : (b : Bool) → periods ≡ b → by b ≡ Err r → (periods ≡ false) × (r ≡ MonthsNotPeriods)
      go true h e = never refl (ap is_whole e)
      go false h e = (h, sym (ap (refusal_or r) e))

  -- the periods of an accepted order lie in the calendar
  pub within : (p : Periods) → periods_of first last size ≡ Ok p → InCalendar p
  within p e =
      let (whole, is) = was_whole p e in
      subst InCalendar (sym is) (in_calendar (place_of first) (place_of last) (months_in size) whole (some_months size))

  -- what a call says of the periods: what the machine reads back from the bits of two months is the two months
  pub known : (r q : Ordered) → SFits w64 first → SFits w64 last → r ≡ periods_of (to_z w64 (of_z w64 first)) (to_z w64 (of_z w64 last)) size → r ≡ q → periods_of first last size ≡ q
  known r q f l e g = rw (sym (to_z-of_z w64 first f), sym (to_z-of_z w64 last l)) (sym e ∙ g)

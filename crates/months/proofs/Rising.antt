-- Starts of months as floats are exact, finite, and rise.
use Prim.Native.Nat.{ℕ, zero, suc, ◌+◌, ◌-◌, ◌*◌, ◌%◌, ◌^◌, ◌≤◌, ◌<◌}
use native.Mathlib.Omega.{arith}
use native.Mathlib.Nat.{mul-one, mul_assoc, mul_comm, mul-pos, mul-lt-mul_of_pos_right, mod-lt, lt_trans, le_trans, le_of_eq, le_of_lt, eq-or-lt_of_le, le_of_suc-le-suc, not-suc-le-zero, mul-le-mul_right, mul-le-mul_left, add-mul, one-mul}
use mathlib.Core.List.{List, [], ◌∷◌}
use mathlib.Core.Logic.{◌⊎◌, inl, inr}
use mathlib.Core.Path.{◌≡◌, refl, sym, ap, subst, ◌∙◌}
use mathlib.Core.Bool.{Bool, true, false, ◌&&◌}
use lib.Dec.{leb, lit<, lit≤}
use lib.Ieee.{Float, nan, inf, fin, binary64, up, down, lt, of_int}
use lib.Ieee.Back.{round_whole}
use lib.Ieee.Exact.{HasValue}
use lib.Ieee.Fits.{down_pos}
use lib.ListN.{length, get_or}
use borrow.Author.Tests.{lt-ltb, leb-true}
use Rattle.numbers.specs.Words.{finite}
use Rattle.numbers.proofs.Every.{and_split, all_every}
use Rattle.numbers.proofs.Ways.{never}
use Rattle.table.specs.Check.{all_finite, rising}
use Rattle.table.specs.Table.{at}
use Rattle.months.specs.Calendar.{is_leap, year_of, lengths, length_at, start_at}
use Rattle.months.specs.Knots.{days, knot_at, month_knots}
use Rattle.months.specs.Steps.{InCalendar}
use Rattle.months.specs.declared.periods.Periods.{Periods}
use Rattle.months.proofs.Listed.{length_listed, listed_at}

-- a whole number of up to 53 bits is a float
pub days_exact : (n : ℕ) → n ≤ 2 ^ 53 → HasValue (days n) false n 1
unfolding of_int
days_exact n h = round_whole binary64 false n h

has_finite : (x : Float) (n : ℕ) → HasValue x false n 1 → finite x ≡ true
unfolding finite
has_finite nan n h = absurd h
has_finite (inf s) n h = absurd h
has_finite (fin s m e) n h = refl

cross : (x y a b de dd : ℕ) → x * 1 ≡ a * de → y * 1 ≡ b * dd → a < b → 0 < de → 0 < dd → x * dd < y * de
cross x y a b de dd p q h C D =
    let l : x * dd ≡ a * (de * dd) = ap (λ (z : ℕ). z * dd) (sym (mul-one x) ∙ p) ∙ mul_assoc a de dd in
    let r : y * de ≡ b * (de * dd) = ap (λ (z : ℕ). z * de) (sym (mul-one y) ∙ q) ∙ mul_assoc b dd de ∙ ap (λ (z : ℕ). b * z) (mul_comm dd de) in
    subst (λ (z : ℕ). z < y * de) (sym l) (subst (λ (z : ℕ). a * (de * dd) < z) (sym r) (mul-lt-mul_of_pos_right h (mul-pos C D)))

has_below : (x y : Float) (a b : ℕ) → HasValue x false a 1 → HasValue y false b 1 → a < b → lt x y ≡ true
unfolding lt
has_below nan y a b p q h = absurd p
has_below (inf s) y a b p q h = absurd p
has_below (fin s m e) nan a b p q h = absurd q
has_below (fin s m e) (inf t) a b p q h = absurd q
has_below (fin true m e) (fin t n d) a b p q h = never refl p.0
has_below (fin false m e) (fin true n d) a b p q h = never refl q.0
has_below (fin false m e) (fin false n d) a b p q h =
    lt-ltb (m * up e * down d) (n * up d * down e) (cross (m * up e) (n * up d) a b (down e) (down d) p.1 q.1 h (down_pos e) (down_pos d))

pub days_finite : (n : ℕ) → n ≤ 2 ^ 53 → finite (days n) ≡ true
days_finite n h = has_finite (days n) n (days_exact n h)

pub days_rise : (a b : ℕ) → a < b → b ≤ 2 ^ 53 → lt (days a) (days b) ≡ true
days_rise a b h k = has_below (days a) (days b) a b (days_exact a (le_trans (le_of_lt h) k)) (days_exact b k) h

-- every month has 28 days or more
abbrev long_all : List ℕ → Bool
long_all [] = true
long_all (x ∷ xs) = leb 28 x && long_all xs

long_at : (xs : List ℕ) → long_all xs ≡ true → (k : ℕ) → k < length xs → 28 ≤ get_or xs k 0
long_at [] t k h = absurd (not-suc-le-zero h)
long_at (x ∷ xs) t zero h = leb-true 28 x (and_split (leb 28 x) (long_all xs) t).0
long_at (x ∷ xs) t (suc k) h = long_at xs (and_split (leb 28 x) (long_all xs) t).1 k (le_of_suc-le-suc h)

long_months : (leap : Bool) (k : ℕ) → k < 12 → 28 ≤ get_or (lengths leap) k 0
long_months true k h = long_at (lengths true) refl k h
long_months false k h = long_at (lengths false) refl k h

pub long : (m : ℕ) → 28 ≤ length_at m
long m = long_months (is_leap (year_of m)) (m % 12) (mod-lt m (lit< tt))

next_start : (m : ℕ) → start_at m < start_at (suc m)
unfolding start_at
next_start m = let l = long m in omega (arith, l)

-- later months start later
pub starts_rise : (m k : ℕ) → m < k → start_at m < start_at k
starts_rise m zero h = absurd (not-suc-le-zero h)
starts_rise m (suc k) h = elim (eq-or-lt_of_le (le_of_suc-le-suc h)) [ inl e ↦ subst (λ (j : ℕ). start_at j < start_at (suc k)) (sym e) (next_start k) | inr l ↦ lt_trans (starts_rise m k l) (next_start k) ]

-- the first and the last entry of the calendar
pub first_start : start_at 0 ≡ 0
unfolding start_at
first_start = refl

pub last_start : start_at 1200 ≡ 36525
unfolding start_at
last_start = refl

pub starts_small : (m : ℕ) → m ≤ 1200 → start_at m ≤ 2 ^ 53
starts_small m h = le_trans (up_to m (eq-or-lt_of_le h)) (lit≤ tt)
  where
    up_to : (m : ℕ) → (m ≡ 1200) ⊎ (m < 1200) → start_at m ≤ 36525
    up_to m (inl e) = le_of_eq (ap start_at e ∙ last_start)
    up_to m (inr l) = le_of_lt (subst (λ (d : ℕ). start_at m < d) last_start (starts_rise m 1200 l))

module _ (p : Periods) (within : InCalendar p) where
  pub month_in : (i : ℕ) → i < p.knots → p.first + i * p.months ≤ 1200
  month_in i h =
      let up : i ≤ p.knots - 1 = omega arith in
      let more = mul-le-mul_right p.months up in
      let last = within.2 in
      omega (arith, more, last)

  -- a period has a month, so there are no more periods than months
  pub few_knots : p.knots ≤ 4096
  few_knots =
      let months = mul-le-mul_left (p.knots - 1) within.0 in
      let one = mul-one (p.knots - 1) in
      let last = within.2 in
      omega (arith, months, one, last)

  -- knot i, where it stands in the list
  pub knot_at_lem : (i : ℕ) → i < p.knots → at (month_knots p) i ≡ knot_at p i
  knot_at_lem i h = listed_at (knot_at p) p.knots i nan h

  pub knots_finite : all_finite (month_knots p) ≡ true
  unfolding all_finite
  knots_finite =
      all_every (length (month_knots p)) (λ i. finite (at (month_knots p) i))
      (λ i h.
      let below : i < p.knots = subst (λ (n : ℕ). i < n) (length_listed (knot_at p) 0 p.knots) h in
      ap finite (knot_at_lem i below) ∙ days_finite _ (starts_small _ (month_in i below)))

  pub knots_rise : rising (month_knots p) ≡ true
  unfolding rising
  knots_rise =
      all_every (length (month_knots p) - 1) (λ i. lt (at (month_knots p) i) (at (month_knots p) (i + 1)))
      (λ i h.
      let n = length_listed (knot_at p) 0 p.knots in
      let below : i + 1 < p.knots = omega (arith, h, n) in
      let here : i < p.knots = omega arith in
      let next : p.first + i * p.months < p.first + (i + 1) * p.months = further within.0 i in
      ap (λ (x : Float). lt x (at (month_knots p) (i + 1))) (knot_at_lem i here)
      ∙ ap (lt (knot_at p i)) (knot_at_lem (i + 1) below)
      ∙ days_rise _ _ (starts_rise _ _ next) (starts_small _ (month_in (i + 1) below)))
    where
      further : 0 < p.months → (i : ℕ) → p.first + i * p.months < p.first + (i + 1) * p.months
      further h i = let m = add-mul i 1 p.months in let o = one-mul p.months in omega (arith, h, m, o)

-- A place found by one comparison: with knots that rise, a knot is above a query exactly where the walk stops before it.
use Prim.Native.Nat.{ℕ, zero, suc, ◌+◌, ◌-◌, ◌*◌, ◌≤◌, ◌<◌}
use native.Mathlib.Omega.{arith}
use mathlib.Core.Bool.{Bool, true, false, not, ◌||◌}
use mathlib.Core.List.{List}
use mathlib.Core.Logic.{◌⊎◌, inl, inr, ⊎_elim}
use mathlib.Core.Path.{◌≡◌, refl, ap, ◌∙◌}
use borrow.Author.Tests.{not-true, eqb-true, leb-true}
use mir.Val.{bool_byte}
use lib.Dec.{eqb, leb}
use lib.Ieee.{Float, lt}
use lib.ListN.{length}
use Rattle.numbers.proofs.Every.{all_at, and_split}
use Rattle.numbers.proofs.Order.{lt_on}
use Rattle.numbers.proofs.Ways.{never, lt_or_le, or_some}
use Rattle.table.specs.Check.{rising}
use Rattle.table.specs.Table.{at}
use Rattle.query.specs.Query.{place_of}
use Rattle.query.proofs.Walk.{place_le}
use Rattle.query.proofs.Above.{none_before_lem, above_here}
use Rattle.query.specs.Steps.{covers}

-- knots that rise step by step rise over any stretch
pub climbs : (x : List Float) → rising x ≡ true → (i k : ℕ) → i + 1 + k < length x → lt (at x i) (at x (i + 1 + k)) ≡ true
unfolding rising
climbs x up i zero h =
    let e : i + 1 + 0 ≡ i + 1 = omega arith in
    ap (λ (j : ℕ). lt (at x i) (at x j)) e ∙ all_at (length x - 1) (λ j. lt (at x j) (at x (j + 1))) up i (omega (arith, h))
climbs x up i (suc k) h =
    let e : i + 1 + suc k ≡ i + 1 + k + 1 = omega arith in
    ap (λ (j : ℕ). lt (at x i) (at x j)) e
    ∙ lt_on (at x i) (at x (i + 1 + k)) (at x (i + 1 + k + 1)) (climbs x up i k (omega (arith, h)))
    (all_at (length x - 1) (λ j. lt (at x j) (at x (j + 1))) up (i + 1 + k) (omega (arith, h)))

-- so a query below a knot is below every later one
below_later : (x : List Float) (q : Float) → rising x ≡ true → (i j : ℕ) → i ≤ j → j < length x → lt q (at x i) ≡ true → lt q (at x j) ≡ true
below_later x q up i j l h b =
    ⊎_elim
    (λ (m : i < j).
    let e : j ≡ i + 1 + (j - i - 1) = omega (arith, m) in
    lt_on q (at x i) (at x j) b (ap (λ (k : ℕ). lt (at x i) (at x k)) e ∙ climbs x up i (j - i - 1) (omega (arith, m, h))))
    (λ (m : j ≤ i). let e : j ≡ i = omega (arith, l, m) in ap (λ (k : ℕ). lt q (at x k)) e ∙ b)
    (lt_or_le i j)

-- not below an inner knot: the place is its section, or a later one
pub not_below : (x : List Float) (q : Float) → rising x ≡ true → (p : ℕ) → p ≤ length x - 2 → lt q (at x p) ≡ false → p ≤ place_of x q
not_below x q up p l h =
    ⊎_elim
    (λ (m : place_of x q < p). never (below_later x q up (place_of x q + 1) p (omega (arith, m)) (omega (arith, m, l)) (above_here x q (omega (arith, m, l)))) h)
    (λ (m : p ≤ place_of x q). m)
    (lt_or_le (place_of x q) p)

-- below a knot: the place is an earlier section
pub below : (x : List Float) (q : Float) (p : ℕ) → 0 < p → lt q (at x p) ≡ true → place_of x q < p
below x q p o h =
    ⊎_elim
    (λ (m : place_of x q < p). m)
    (λ (m : p ≤ place_of x q).
    let e : p ≡ p - 1 + 1 = omega (arith, o) in
    never h (ap (λ (k : ℕ). lt q (at x k)) e ∙ none_before_lem x q (p - 1) (omega (arith, o, m))))
    (lt_or_le (place_of x q) p)

-- a section that covers a query is its place
pub covers_here : (x : List Float) (q : Float) (i : ℕ) → rising x ≡ true → i + 1 < length x → covers x q i ≡ true → i ≡ place_of x q
covers_here x q i up l h =
    let both = and_split (eqb i 0 || not (lt q (at x i))) (leb (length x - 2) i || lt q (at x (i + 1))) h in
    let low : i ≤ place_of x q =
    ⊎_elim
    (λ (e : eqb i 0 ≡ true). omega (arith, eqb-true i 0 e))
    (λ (e : not (lt q (at x i)) ≡ true). not_below x q up i (omega (arith, l)) (not-true (lt q (at x i)) e))
    (or_some (eqb i 0) (not (lt q (at x i))) both.0) in
    let high : place_of x q ≤ i =
    ⊎_elim
    (λ (e : leb (length x - 2) i ≡ true). omega (arith, leb-true (length x - 2) i e, place_le x q))
    (λ (e : lt q (at x (i + 1)) ≡ true). omega (arith, below x q (i + 1) (omega arith) e))
    (or_some (leb (length x - 2) i) (lt q (at x (i + 1))) both.1) in
    omega (arith, low, high)

-- what a stride keeps: it is not past the place, and either it has come as far as it has looked or the place is less than a step on
abbrev pub Strode : List Float → Float → ℕ → ℕ → ℕ → Type 0
Strode x q step i probe = (i ≤ place_of x q) × ((i + step ≡ probe) ⊎ (place_of x q < i + step))

module _ (x : List Float) (q : Float) (up : rising x ≡ true) (step i probe : ℕ) (inner : probe ≤ length x - 2) (some : 0 < probe) (reach : i + step ≤ probe) (before : Strode x q step i probe) where
  look : (b : Bool) → lt q (at x probe) ≡ b → Strode x q step (i + step * bool_byte (not b)) (probe + step) × (i + step * bool_byte (not b) + step ≤ probe + step)
  look true h =
      let l = below x q probe some h in
      ((omega (arith, before.0), inr (⊎_elim (λ (e : i + step ≡ probe). omega (arith, e, l)) (λ (m : place_of x q < i + step). omega (arith, m)) before.1)), omega (arith, reach))
  look false h =
      let l = not_below x q up probe inner h in
      ⊎_elim
      (λ (e : i + step ≡ probe). ((omega (arith, e, l), inl (omega (arith, e))), omega (arith, e)))
      (λ (m : place_of x q < i + step). absurd (omega (arith, m, l, reach)))
      before.1

  pub looked : Strode x q step (i + step * bool_byte (not (lt q (at x probe)))) (probe + step) × (i + step * bool_byte (not (lt q (at x probe))) + step ≤ probe + step)
  looked = look (lt q (at x probe)) refl

-- before both, and so before whichever is the smaller
pub before_least : (p a b r : ℕ) → p < a → p < b → (r ≡ a) ⊎ (r ≡ b) → p < r
before_least p a b r l m w = ⊎_elim (λ (e : r ≡ a). omega (arith, e, l)) (λ (e : r ≡ b). omega (arith, e, m)) w

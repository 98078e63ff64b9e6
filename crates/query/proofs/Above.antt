-- The place that the walk finds ends at the first inner knot above the query, or is the last section if no inner knot lies above it; no other place is so. Section i ends at knot i + 1.
use Prim.Native.Nat.{ℕ, zero, suc, ◌+◌, ◌-◌, ◌≤◌, ◌<◌}
use native.Mathlib.Omega.{arith}
use mathlib.Core.Bool.{Bool, true, false, cond}
use mathlib.Core.List.{List}
use mathlib.Core.Logic.{◌⊎◌, inl, inr}
use mathlib.Core.Path.{◌≡◌, refl, ap, ◌∙◌}
use lib.Ieee.{Float, lt}
use lib.ListN.{length}
use Rattle.numbers.proofs.Ways.{never, lt_or_le}
use Rattle.table.specs.Table.{at}
use Rattle.query.specs.Query.{walk, place_of}
use Rattle.query.proofs.Walk.{place_le}

-- a knot that the walk passed is the one it stands at, or a later one
passed : (x : List Float) (q : Float) (i k : ℕ) → i ≤ k → (i < k) ⊎ (k ≤ i) → lt q (at x (i + 1)) ≡ false →
    (i + 1 ≤ k → lt q (at x (k + 1)) ≡ false) → lt q (at x (k + 1)) ≡ false
passed x q i k a (inl l) e later = later (omega arith)
passed x q i k a (inr r) e later = let s : k ≡ i = omega arith in ap (λ (m : ℕ). lt q (at x (m + 1))) s ∙ e

before_step : (x : List Float) (q : Float) (i k n : ℕ) (b : Bool) → lt q (at x (i + 1)) ≡ b → i ≤ k → k < cond b i n →
    (i + 1 ≤ k → k < n → lt q (at x (k + 1)) ≡ false) → lt q (at x (k + 1)) ≡ false
before_step x q i k n true e a c later = absurd (omega arith)
before_step x q i k n false e a c later = passed x q i k a (lt_or_le i k) e (λ (l : i + 1 ≤ k). later l c)

before : (x : List Float) (q : Float) (i left k : ℕ) → i ≤ k → k < walk x q i left → lt q (at x (k + 1)) ≡ false
unfolding walk
before x q i zero k a c = absurd (omega arith)
before x q i (suc left) k a c = before_step x q i k (walk x q (i + 1) left) (lt q (at x (i + 1))) refl a c (before x q (i + 1) left k)

stop_step : (x : List Float) (q : Float) (i n top : ℕ) (b : Bool) → lt q (at x (i + 1)) ≡ b → cond b i n < top →
    (n < top → lt q (at x (n + 1)) ≡ true) → lt q (at x (cond b i n + 1)) ≡ true
stop_step x q i n top true e c later = e
stop_step x q i n top false e c later = later c

-- a walk that ends early was stopped
stopped : (x : List Float) (q : Float) (i left top : ℕ) → top ≡ i + left → walk x q i left < top → lt q (at x (walk x q i left + 1)) ≡ true
unfolding walk
stopped x q i zero top t c = absurd (omega arith)
stopped x q i (suc left) top t c =
    stop_step x q i (walk x q (i + 1) left) top (lt q (at x (i + 1))) refl c (stopped x q (i + 1) left top (omega arith))

-- no inner knot up to the place lies above the query
pub none_before_lem : (x : List Float) (q : Float) (k : ℕ) → k < place_of x q → lt q (at x (k + 1)) ≡ false
none_before_lem x q k h = before x q 0 (length x - 2) k (omega arith) h

-- and at the place stands one that does, unless it is the last section
pub above_here : (x : List Float) (q : Float) → place_of x q < length x - 2 → lt q (at x (place_of x q + 1)) ≡ true
above_here x q h = stopped x q 0 (length x - 2) (length x - 2) (omega arith) h

-- of two different places the lower would stop the walk to the higher
same_place : (x : List Float) (q : Float) (p : ℕ) → p ≤ length x - 2 → ((k : ℕ) → k < p → lt q (at x (k + 1)) ≡ false) →
    (p < length x - 2 → lt q (at x (p + 1)) ≡ true) → (p < place_of x q) ⊎ (place_of x q ≤ p) → (place_of x q < p) ⊎ (p ≤ place_of x q) → p ≡ place_of x q
same_place x q p m none here (inl l) g = never (here (omega (arith, place_le x q))) (none_before_lem x q p l)
same_place x q p m none here (inr r) (inl l) = never (above_here x q (omega arith)) (none (place_of x q) l)
same_place x q p m none here (inr r) (inr s) = omega arith

-- there is no other such place
pub only_place : (x : List Float) (q : Float) (p : ℕ) → p ≤ length x - 2 → ((k : ℕ) → k < p → lt q (at x (k + 1)) ≡ false) →
    (p < length x - 2 → lt q (at x (p + 1)) ≡ true) → p ≡ place_of x q
only_place x q p m none here = same_place x q p m none here (lt_or_le p (place_of x q)) (lt_or_le (place_of x q) p)

-- What the tests know of each other.
use Prim.Native.Nat.{ℕ, ◌+◌, ◌*◌}
use native.Mathlib.Omega.{arith}
use mathlib.Core.Bool.{Bool, true, false, not, ◌&&◌, ◌||◌}
use mathlib.Core.Path.{◌≡◌, refl}
use lib.Dec.{eqb}
use borrow.Author.Tests.{le-ltb, eqb-true}
use lib.Ieee.{Float, nan, inf, fin, lt, le, eq, below, level, up, down, of_bits}
use Rattle.numbers.specs.Words.{zero}
use Rattle.numbers.proofs.Signs.{plus_is_not_below}

-- no number is both above and below 0.0
pub not_below : (x : Float) → lt zero x ≡ true → lt x zero ≡ false
unfolding lt of_bits
not_below nan h = refl
not_below (inf true) h = cc
not_below (inf false) h = refl
not_below (fin true m e) h = cc
not_below (fin false m e) h = plus_is_not_below m e

other_false : (a b : Bool) → (a ≡ true → b ≡ false) → b ≡ true → a ≡ false
other_false true b f h = cc (f refl)
other_false false b f h = refl

pub not_above : (x : Float) → lt x zero ≡ true → lt zero x ≡ false
not_above x h = other_false (lt zero x) (lt x zero) (not_below x) h

-- no number is both less than another and equal to it
first_true : (a b : Bool) → (a && b) ≡ true → a ≡ true
first_true true b h = refl
first_true false b h = h

second_true : (a b : Bool) → (a && b) ≡ true → b ≡ true
second_true true b h = h
second_true false b h = cc

level_not_below : (s t : Bool) (a b : ℕ) → level s a t b ≡ true → below s a t b ≡ false
level_not_below false false a b h = let p : a ≡ b = eqb-true a b (first_true (eqb a b) _ h) in le-ltb a b (omega arith)
level_not_below false true a b h = refl
level_not_below true true a b h = let p : a ≡ b = eqb-true a b (first_true (eqb a b) _ h) in le-ltb b a (omega arith)
level_not_below true false a b h =
    let p : a ≡ b = eqb-true a b (first_true (eqb a b) _ h) in
    let z : a ≡ 0 = eqb-true a 0 (second_true (eqb a b) (eqb a 0) h) in
    le-ltb 0 (a + b) (omega arith)

pub equal_not_less : (x y : Float) → eq x y ≡ true → lt x y ≡ false
unfolding eq lt
equal_not_less nan y h = refl
equal_not_less (inf s) nan h = cc
equal_not_less (inf true) (inf true) h = refl
equal_not_less (inf true) (inf false) h = cc
equal_not_less (inf false) (inf t) h = refl
equal_not_less (inf s) (fin t n d) h = cc
equal_not_less (fin s m e) nan h = cc
equal_not_less (fin s m e) (inf t) h = cc
equal_not_less (fin s m e) (fin t n d) h = level_not_below s t (m * up e * down d) (n * up d * down e) h

one_of_two : (l e : Bool) → (e ≡ true → l ≡ false) → (l || e) ≡ true → l ≡ not e
one_of_two l true f h = f refl
one_of_two true false f h = refl
one_of_two false false f h = h

pub less_or_equal : (x y : Float) → le x y ≡ true → lt x y ≡ not (eq x y)
unfolding le
less_or_equal x y h = one_of_two (lt x y) (eq x y) (equal_not_less x y) h

-- Flags of a test that are floats: 0.0 where it holds at every place so far, and 1.0 where it does not.
use Prim.Native.Nat.{ℕ, zero, suc, ◌+◌, ◌*◌}
use native.Mathlib.Omega.{arith}
use native.Mathlib.Numerals.{add-one}
use mathlib.Core.Bool.{Bool, true, false, ◌&&◌}
use mathlib.Core.Path.{◌≡◌, refl, ap, ◌∙◌}
use lib.Ieee as ieee
use lib.Ieee.{Float}
use Rattle.numbers.specs.Every.{all_below}
use Rattle.numbers.specs.Words as word

abbrev pub flag : Bool → Float
flag true = word.zero
flag false = word.one

-- after one place more: raised where the test fails there, and else as it was
module _ (n : ℕ) (f : ℕ → Bool) (old new : Float) (told : old ≡ flag (all_below n f)) where
  pub raised : f n ≡ false → new ≡ word.one → new ≡ flag (all_below (n + 1) f)
  unfolding all_below
  raised h e = rw (e, add-one n, h) refl

  pub stays : f n ≡ true → new ≡ old → new ≡ flag (all_below (n + 1) f)
  unfolding all_below
  stays h e = rw (e, told, add-one n, h) refl

-- a flag tells what it was raised for
lowered : (b : Bool) → ieee.eq (flag b) word.zero ≡ b
unfolding ieee.eq ieee.of_bits
lowered true = refl
lowered false = refl

swapped : (a b c d : Bool) → (a && b) && (c && d) ≡ c && (a && (b && d))
swapped true b true d = refl
swapped true true false d = refl
swapped true false false d = refl
swapped false b true d = refl
swapped false b false d = refl

-- a test holds below 2 * n where it holds at the even places and at the odd ones
both_halves : (n : ℕ) (f : ℕ → Bool) → (all_below n (λ j. f (2 * j)) && all_below n (λ j. f (2 * j + 1))) ≡ all_below (2 * n) f
unfolding all_below
both_halves zero f = refl
both_halves (suc n) f =
    let two : 2 * suc n ≡ suc (suc (2 * n)) = omega arith in
    rw two
    (swapped (f (2 * n)) (all_below n (λ j. f (2 * j))) (f (2 * n + 1)) (all_below n (λ j. f (2 * j + 1)))
    ∙ ap (λ (b : Bool). f (2 * n + 1) && (f (2 * n) && b)) (both_halves n f)
    ∙ ap (λ (k : ℕ). f k && (f (2 * n) && all_below (2 * n) f)) (add-one (2 * n)))

pub both_lowered : (n : ℕ) (f : ℕ → Bool) (even odd : Float) → even ≡ flag (all_below n (λ j. f (2 * j))) → odd ≡ flag (all_below n (λ j. f (2 * j + 1))) →
    (ieee.eq even word.zero && ieee.eq odd word.zero) ≡ all_below (2 * n) f
both_lowered n f even odd e g = rw (e, g, lowered (all_below n (λ j. f (2 * j))), lowered (all_below n (λ j. f (2 * j + 1)))) (both_halves n f)

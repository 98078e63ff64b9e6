-- A test that is put together from others, where those are known. Where one is of a number above 0.0 and another of a number below it, the first of them
-- that is asked decides.
use mathlib.Core.Bool.{Bool, true, false, ◌&&◌, ◌||◌, or-false}
use mathlib.Core.Path.{◌≡◌}
use lib.Ieee.{Float, lt}
use Rattle.numbers.specs.Words.{zero}
use Rattle.choice.proofs.Signs.{not_below, not_above}

-- one after the other
pub and_taken : (a b r : Bool) → a ≡ true → r ≡ b → r ≡ (a && b)
and_taken a b r h e = rw h e

pub and_left : (a b r : Bool) → a ≡ false → r ≡ a → r ≡ (a && b)
and_left a b r h e = rw (e, h)

-- one test of a number above 0.0 and another of a number below it
module _ (P : Float) (a b r : Bool) where
  pub above : lt zero P ≡ true → r ≡ a → r ≡ (lt zero P && a || lt P zero && b)
  above h e = rw (h, not_below P h, or-false) e

  pub below : lt P zero ≡ true → r ≡ b → r ≡ (lt zero P && a || lt P zero && b)
  below h e = rw (not_above P h, h) e

  pub neither : lt zero P ≡ false → lt P zero ≡ false → r ≡ false → r ≡ (lt zero P && a || lt P zero && b)
  neither g h e = rw (g, h) e

  -- the number below it is asked first
  pub below_first : lt P zero ≡ true → r ≡ a → r ≡ (lt P zero && a || lt zero P && b)
  below_first h e = rw (h, not_above P h, or-false) e

pub ruleset tests = (and_taken, and_left, above, below, neither)

pub ruleset signs = (above, below_first)

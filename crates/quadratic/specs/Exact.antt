-- Our own: what exact arithmetic says of a parabola's ends, over whole numbers. An end is a size with a sign, both ends over one divisor, which cancels.
use Rattle.std.specs.Prelude.{ℕ, ◌+◌, ◌-◌, ◌*◌, Bool, cond, leb}
use Rattle.std.specs.Bool.{beq}

module _ (s : Bool) (f : ℕ) (t : Bool) (g : ℕ) where
  -- b_av of 000, and 4 times 36 times its c_av
  abbrev pub middle : ℕ
  middle = 24 * cond (beq s t) (f + g) (f - g + (g - f))

  abbrev pub outer : ℕ
  outer = 4 * 36 * (4 * cond (beq s t) (f * f + f * g + g * g) (f * f + g * g - f * g))

  -- the second test of 000: a parabola with these ends can touch zero
  unfoldable pub can_touch : Bool
  can_touch = leb outer (middle * middle)

-- Steps of the code, which only the contracts of private functions cite: what they answer, over whole numbers.
use Rattle.std.specs.Prelude.{ℕ, ◌+◌, ◌-◌, ◌*◌, ◌/◌, ◌^◌, cond, ltb}
use Rattle.root.specs.Root.{nearest_root, scaled, pairs}

-- the bits of the root of n units
unfoldable pub root_bits : ℕ → ℕ
unfolding scaled nearest_root
root_bits n = (pairs n + 484) * 2 ^ 52 + nearest_root (scaled n)

-- the units that the bits of a positive finite number stand for
unfoldable pub units_of_bits : ℕ → ℕ
units_of_bits b = cond (ltb b (2 ^ 52)) b ((b - (b / 2 ^ 52 - 1) * 2 ^ 52) * 2 ^ (b / 2 ^ 52 - 1))

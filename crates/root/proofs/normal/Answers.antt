-- `root::normal` meets its contract: what is settled is the nearest whole number to the root of the normalised number, under its exponent.
use Prim.Native.Nat.{ℕ, ◌+◌, ◌-◌, ◌*◌, ◌/◌, ◌%◌, ◌^◌}
use native.Mathlib.Omega.{arith}
use mathlib.Core.Path.{◌≡◌, ap, ◌∙◌}
use Rattle.root.specs.Root.{nearest_root, scaled}
use Rattle.root.specs.Steps.{root_bits}
use Rattle.root.proofs.Scaling.{significand_small, pairs_high, root_small}
use Rattle.root.proofs.Units.{normal_units}
use Rattle.root.proofs.normal.Goals as goal
use Rattle.root.proofs.normal.Goals.{In_ok-r}

-- the number is q * 2 ^ k units
abbrev q_of : ℕ → ℕ
q_of bits = bits % 2 ^ 52 + 2 ^ 52

abbrev k_of : ℕ → ℕ
k_of bits = bits / 2 ^ 52 - 1

-- what was settled, over the number's units
found : (c : In_ok-r) → c.in_ok-r.r ≡ nearest_root (scaled (q_of c.args.bits * 2 ^ k_of c.args.bits))
found c = c.in_ok-r.ensures ∙ ap nearest_root c.normalise-n.ensures.0

pub settle-requires : goal.settle-requires
settle-requires c =
    omega (arith, significand_small (q_of c.args.bits) (k_of c.args.bits) (omega arith) (omega arith) _ c.normalise-n.ensures.0)

pub overflow_mul-result : goal.overflow_mul-result
overflow_mul-result c =
    omega (arith, c.normalise-n.ensures.1, pairs_high (q_of c.args.bits) (k_of c.args.bits) (omega arith) (omega arith) (omega arith))

pub overflow_add-result : goal.overflow_add-result
overflow_add-result c =
    omega (arith, found c.before, c.normalise-n.ensures.1, pairs_high (q_of c.args.bits) (k_of c.args.bits) (omega arith) (omega arith) (omega arith), root_small (q_of c.args.bits) (k_of c.args.bits) (omega arith) (omega arith))

pub returns : goal.returns
unfolding root_bits
returns c = rw (found c.before, c.normalise-n.ensures.1, normal_units c.args.bits (omega arith))

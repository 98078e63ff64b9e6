-- `root::root_of` meets its contract: the whole number found is the root of the normalised number, under its exponent.
use Prim.Native.Nat.{◌*◌, ◌^◌}
use native.Mathlib.Omega.{arith}
use mathlib.Core.Path.{◌≡◌, ap, ◌∙◌}
use Rattle.root.specs.Root.{nearest_root, scaled}
use Rattle.root.specs.Steps.{root_bits}
use Rattle.root.proofs.Scaling.{significand_small, pairs_high, root_small}
use Rattle.root.proofs.root_of.Goals as goal

-- the call's answer, over q and k
found : (c : goal.After-nearest_root) → c.nearest_root.result ≡ nearest_root (scaled (c.args.q * 2 ^ c.args.k))
found c = c.nearest_root.ensures ∙ ap nearest_root c.normalise-n.ensures.0

pub overflow_mul-result : goal.overflow_mul-result
overflow_mul-result c = omega (arith, c.normalise-n.ensures.1, pairs_high c.args.q c.args.k c.requires.0 c.requires.1 c.requires.2)

pub nearest_root-requires : goal.nearest_root-requires
nearest_root-requires c = significand_small c.args.q c.args.k c.requires.0 c.requires.1 _ c.normalise-n.ensures.0

pub overflow_add-result : goal.overflow_add-result
overflow_add-result c =
    omega (arith, found c, c.normalise-n.ensures.1, pairs_high c.args.q c.args.k c.requires.0 c.requires.1 c.requires.2, root_small c.args.q c.args.k c.requires.0 c.requires.1)

pub returns : goal.returns
unfolding root_bits
returns c = rw (found c, c.normalise-n.ensures.1)

-- `root::sqrt` meets its contract: what passes its tests is a normal number, and all else goes to `special`.
use mathlib.Core.Path.{ap, ◌∙◌}
use native.Mathlib.Omega.{arith}
use lib.Ieee.{binary64, of_bits, nan_bits}
use denote.Floats.{passes}
use Rattle.std.proofs.lemmas.Float.{T_from_false}
use Rattle.root.proofs.Cases.{above_zero, root_positive, root_number, bits_range}
use Rattle.root.proofs.sqrt.Goals as goal

pub normal-requires : goal.normal-requires
normal-requires c = omega (arith, bits_range c.args.a (above_zero c.args.a c.if-a.true c.if-a-2.true) (passes _ c.well_formed.0.1))

pub float_from_bits-result : goal.float_from_bits-result
float_from_bits-result c =
    T_from_false _ (ap (nan_bits binary64) c.in-Some.ensures ∙ root_number c.args.a (above_zero c.args.a c.if-a.true c.if-a-2.true) (passes _ c.well_formed.0.1))

pub returns-in-Some : goal.returns-in-Some
returns-in-Some c =
    ap (of_bits binary64) c.in-Some.ensures ∙ root_positive c.args.a (above_zero c.args.a c.if-a.true c.if-a-2.true) (passes _ c.well_formed.0.1)

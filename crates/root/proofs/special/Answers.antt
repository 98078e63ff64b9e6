-- `root::special` meets its contract: each return by the tests that led there.
use mathlib.Core.Bool.{true}
use mathlib.Core.Path.{◌≡◌, sym, ap, ◌∙◌}
use lib.Ieee.{binary64, div, of_bits, nan_bits}
use denote.Floats.{passes}
use Rattle.numbers.specs.Words.{finite}
use Rattle.std.proofs.lemmas.Float.{T_from_false}
use Rattle.root.specs.Nearest.{Positive}
use Rattle.root.proofs.Cases.{root_zero, root_below, root_not_finite, root_positive, root_number, number_is, is_positive, bits_range}
use Rattle.root.proofs.special.Goals as goal

-- in the branch of the finite numbers
is_so : (c : goal.Then-is_finite) → finite c.args.a ≡ true
is_so c = sym c.is_finite.ensures ∙ c.if-is_finite.true

positive_here : (c : goal.Then-is_finite) → Positive c.args.a
positive_here c = is_positive c.args.a c.if-a.false c.if-a-2.false (is_so c)

pub returns-then-a : goal.returns-then-a
returns-then-a c = root_zero c.args.a c.if-a.true

pub returns-then-a-2 : goal.returns-then-a-2
unfolding of_bits div
returns-then-a-2 c = root_below c.args.a c.if-a.false c.if-a-2.true

pub float_to_bits-a : goal.float_to_bits-a
float_to_bits-a c = number_is c.args.a (is_so c)

pub plain-requires : goal.plain-requires
plain-requires c = bits_range c.args.a (positive_here c) (passes _ c.well_formed.0.1)

pub float_from_bits-result : goal.float_from_bits-result
float_from_bits-result c =
    T_from_false _ (ap (nan_bits binary64) c.plain.ensures ∙ root_number c.args.a (positive_here c.before) (passes _ c.well_formed.0.1))

pub returns-then-is_finite : goal.returns-then-is_finite
returns-then-is_finite c =
    ap (of_bits binary64) c.plain.ensures ∙ root_positive c.args.a (positive_here c.before) (passes _ c.well_formed.0.1)

pub returns : goal.returns
returns c = root_not_finite c.args.a c.if-a-2.false (sym c.is_finite.ensures ∙ c.if-is_finite.false)

-- Each return by the tests that led there, in their order.
use mathlib.Core.Bool.{Bool, true, false, ◌&&◌}
use mathlib.Core.Path.{◌≡◌, refl, sym, ap, ◌∙◌}
use lib.Ieee.{Float}
use Rattle.numbers.specs.Words.{ordinary_size}
use Rattle.query.specs.Steps.{ordinary_curve}
use Rattle.query.proofs.known.is_ordinary_curve.Goals as goal

-- a test of a number that was told, where the test was asked
asked : {v w : Float} {b t : Bool} → v ≡ w → b ≡ ordinary_size v → b ≡ t → ordinary_size w ≡ t
asked e f g = sym (ap ordinary_size e) ∙ sym f ∙ g

fails : (a b : Bool) → a ≡ false → false ≡ a && b
fails a b h = rw h refl

goes : (a b r : Bool) → a ≡ true → r ≡ b → r ≡ a && b
goes a b r h e = rw h e

pub returns-then-not-is_ordinary_size : goal.returns-then-not-is_ordinary_size
unfolding ordinary_curve
returns-then-not-is_ordinary_size c = fails _ _ (asked c.lowest.ensures c.is_ordinary_size.ensures c.if-not-is_ordinary_size.true)

pub returns-then-not-is_ordinary_size-2 : goal.returns-then-not-is_ordinary_size-2
unfolding ordinary_curve
returns-then-not-is_ordinary_size-2 c =
    goes _ _ _ (asked c.lowest.ensures c.is_ordinary_size.ensures c.if-not-is_ordinary_size.false)
    (fails _ _ (asked c.highest.ensures c.is_ordinary_size-2.ensures c.if-not-is_ordinary_size-2.true))

pub returns-then-not-is_ordinary_tail : goal.returns-then-not-is_ordinary_tail
unfolding ordinary_curve
returns-then-not-is_ordinary_tail c =
    goes _ _ _ (asked c.lowest.ensures c.is_ordinary_size.ensures c.if-not-is_ordinary_size.false)
    (goes _ _ _ (asked c.highest.ensures c.is_ordinary_size-2.ensures c.if-not-is_ordinary_size-2.false)
    (fails _ _ (sym c.is_ordinary_tail.ensures ∙ c.if-not-is_ordinary_tail.true)))

pub returns : goal.returns
unfolding ordinary_curve
returns c =
    goes _ _ _ (asked c.lowest.ensures c.is_ordinary_size.ensures c.if-not-is_ordinary_size.false)
    (goes _ _ _ (asked c.highest.ensures c.is_ordinary_size-2.ensures c.if-not-is_ordinary_size-2.false)
    (goes _ _ _ (sym c.is_ordinary_tail.ensures ∙ c.if-not-is_ordinary_tail.false) c.are_ordinary.ensures))

use native.Mathlib.Omega.{arith}
use mathlib.Core.Bool.{false}
use mathlib.Core.Path.{◌≡◌, refl, ap, ◌∙◌}
use lib.Ieee.{Float, nan, lt, eq, le}
use lib.ListN.{get_or-eq_default}
use Rattle.query.proofs.answer.is_outside.Goals as goal

-- a knot that is not there is a NaN, and no number lies above it
nan_below : (q : Float) → le nan q ≡ false
unfolding le lt eq
nan_below q = refl

pub returns-then-xs-eq0 : goal.returns-then-xs-eq0
returns-then-xs-eq0 c = simp (c.if-curve.false, ap (λ (x : Float). le x c.args.q) (get_or-eq_default c.args.xs.now nan {n = 0} (omega (arith, c.if-xs-eq0.true))) ∙ nan_below c.args.q)

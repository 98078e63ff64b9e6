-- What crosses the boundary of a curve is enough: a query of what came across is that of the curve itself.
use Prim.Native.Nat.{ℕ}
use mathlib.Core.List.{List}
use mathlib.Core.Path.{◌≡◌, refl}
use lib.Ieee.{Float}
use Rattle.query.specs.Query.{covered_at, covering, curve_with}
use Rattle.curve.specs.declared.curve.Curve.{Curve}

-- the record's three numbers and whether a query may leave the knots
pub asked_of_curve : (x : List Float) (c : Curve) (tags : List ℕ) (slots : List Float) (q : Float) →
    covered_at x (curve_with c.tail.value c.tail.total c.tail.from c.extrapolates) tags slots q ≡ covered_at x c tags slots q
unfolding covering
asked_of_curve x c tags slots q = refl

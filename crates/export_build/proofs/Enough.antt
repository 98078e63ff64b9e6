-- What crosses the boundary of a curve is enough: growth from what came across is that from the curve itself.
use Rattle.std.specs.Prelude.{Some}
use Prim.Native.Nat.{ℕ}
use mathlib.Core.Bool.{true}
use mathlib.Core.List.{List}
use mathlib.Core.Path.{◌≡◌, refl}
use lib.Ieee.{Float}
use Rattle.growth.specs.Growth.{carried_at, seam_of}
use Rattle.curve.specs.declared.curve.Curve.{Curve}
use Rattle.export_build.specs.Growing.{previous_of}

-- how many sections there are and whether the last was held
pub grown_from_curve : (points localisation : ℕ) (c : Curve) (tags : List ℕ) (slots : List Float) →
    carried_at points localisation (previous_of true c.sections c.held) tags slots ≡ carried_at points localisation (Some c) tags slots
unfolding seam_of
grown_from_curve points localisation c tags slots = refl

-- The two defaults, setting by setting, of the constructors over their contracts.
use mathlib.Core.Bool.{Bool, true, false}
use mathlib.Core.Path.{◌≡◌, ap}
use lib.Ieee.{Float}
use Rattle.numbers.specs.OneOutcome.{Follows}
use Rattle.numbers.specs.Words.{three_tenths, seven_tenths}
use Rattle.table.specs.Method.{new}
use Rattle.table.specs.declared.method.ConvexMonotone.{ConvexMonotone}
use Rattle.table.specs.declared.method.Split.TheVariants as split
use Rattle.table.proofs.method.ConvexMonotone.defaults.Reads as convex-monotone-defaults
use Rattle.table.proofs.method.ConvexMonotone.gas.Reads as convex-monotone-gas

-- the settings of a method that splits as the original does, one by one
abbrev Has : Float → Float → Bool → ConvexMonotone → Type 0
Has q m positive r = (r.quadraticity ≡ q) × ((r.monotonicity ≡ m) × ((r.force_positive ≡ positive) × (r.split ≡ split.Original)))

new_has : (q m : Float) (positive : Bool) (r : ConvexMonotone) → r ≡ new q m positive → Has q m positive r
new_has q m positive r p = (
  ap (λ (n : ConvexMonotone). n.quadraticity) p,
  (
    ap (λ (n : ConvexMonotone). n.monotonicity) p,
    (ap (λ (n : ConvexMonotone). n.force_positive) p, ap (λ (n : ConvexMonotone). n.split) p),
  ),
)

pub defaults_has : Follows convex-monotone-defaults.Post (λ κ a r s. Has three_tenths seven_tenths false r)
defaults_has κ a r s p = new_has three_tenths seven_tenths false r p

pub gas_has : Follows convex-monotone-gas.Post (λ κ a r s. Has three_tenths seven_tenths true r)
gas_has κ a r s p = new_has three_tenths seven_tenths true r p

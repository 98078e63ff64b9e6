-- 01, Refusal numbers: what holds of a table that is not refused, and of the buffers that are lent for it.
use Rattle.std.specs.Prelude.{ℕ, ◌-◌, ◌*◌, ◌≤◌, true, false, List, ◌≡◌, Float, length}
use Rattle.numbers.specs.Sizes.{slot_count}
use Rattle.table.specs.Check.{all_finite, rising, in_unit, average_below}
use Rattle.table.specs.declared.method.ConvexMonotone.{ConvexMonotone}

-- a table that passes 1 to 7 and 29
pub record Sound (x y : List Float) (method : ConvexMonotone) : Type 0 where
  pub same : length x ≡ length y
  pub monotonicity : in_unit method.monotonicity ≡ true
  pub quadraticity : in_unit method.quadraticity ≡ true
  pub low : 2 ≤ length x
  pub knots : all_finite x ≡ true
  pub averages : all_finite y ≡ true
  pub rise : rising x ≡ true
  pub signs : average_below y method ≡ false

-- n points and buffers of these lengths that pass 10 and 11
pub record Room (n nodes tags slots : ℕ) : Type 0 where
  pub high : n ≤ 4096
  pub in_nodes : n ≤ nodes
  pub in_tags : n - 1 ≤ tags
  pub in_slots : slot_count * (n - 1) ≤ slots

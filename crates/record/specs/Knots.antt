-- 02, K9: a section's prices at the two knots of its period, and where they and the total stand in its record
use Rattle.std.specs.Prelude.{ℕ, ◌+◌, Float}
use Rattle.numbers.specs.Sizes.{field_count}
use Rattle.section.specs.Section.{value}
use Rattle.section.specs.declared.section.Section.{Section}
use Rattle.record.specs.declared.knots.KnotPrices.{KnotPrices}

abbrev pub left_price : ℕ
left_price = field_count

abbrev pub right_price : ℕ
right_price = field_count + 1

abbrev pub total_after : ℕ
total_after = field_count + 2

-- one formula at both knots
abbrev pub at_both : (Float → Float) → Float → Float → KnotPrices
at_both f left right = record { left = f left; right = f right }

abbrev pub knot_prices : Section → Float → Float → KnotPrices
knot_prices s left right = at_both (value s) left right

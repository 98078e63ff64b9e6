-- 01, Buffers and section records. 02, K9.
use Rattle.std.specs.Prelude.{ℕ, ◌+◌}

-- the numbers of a section itself: a weight, and the fields of its two parts
abbrev pub field_count : ℕ
field_count = 24

-- the slots of one record: these, the section's prices at the two knots of its period, and the running total after the period
abbrev pub slot_count : ℕ
slot_count = field_count + 3

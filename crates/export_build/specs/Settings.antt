-- 02, K3, and our own safe mode: the settings across the boundary, with the mode of the split as a number.
use Rattle.std.specs.Prelude.{ℕ, Bool, cond, eqb, ltb, Float}
use Rattle.table.specs.Method.{new, with_split}
use Rattle.table.specs.declared.method.ConvexMonotone.{ConvexMonotone}
use Rattle.table.specs.declared.method.Split.{Split}
use Rattle.table.specs.declared.method.Split.TheVariants as split

-- 0 is the original split, 1 the careful one and 2 the safe one; there is no other
abbrev pub unknown : ℕ → Bool
unknown mode = ltb 2 mode

abbrev pub split_of : ℕ → Split
split_of mode = cond (eqb mode 1) split.Careful (cond (eqb mode 2) split.Safe split.Original)

abbrev pub method_of : Float → Float → Bool → ℕ → ConvexMonotone
method_of q m positive mode = with_split (split_of mode) (new q m positive)

-- 02, K1: whether a record has a part whose split is unusual, so that its number at its left knot is not known beforehand.
use Rattle.std.specs.Prelude.{ℕ, Bool, false, cond, not, ◌&&◌, ◌||◌, List, ltb, Float, length}
use Rattle.std.specs.Float.Ieee.{lt, le}
use Rattle.numbers.specs.Sizes.{field_count}
use Rattle.numbers.specs.Words.{ordinary_ratio}
use Rattle.record.specs.Reading.{slot}
use Rattle.record.specs.Tag.{quadratic_split_tag, other_split_tag}

-- slots 2 and 12 are x2 and the ratio of the quadratic part, slots 22 and 21 those of the other part
unfoldable pub unusual_split : ℕ → List Float → Float → Bool
unusual_split tag s x =
    cond (ltb (length s) field_count) false
    ((quadratic_split_tag tag && not (lt x (slot s 2) && ordinary_ratio (slot s 12))) || (other_split_tag tag && not (le x (slot s 22) && ordinary_ratio (slot s 21))))

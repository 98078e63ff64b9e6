-- 01, Choosing a section: the tests. P is the node before a period less its average, N the node after it less the same.
-- Each is false where a number that it compares is a NaN.
use Rattle.std.specs.Prelude.{Bool, ◌&&◌, ◌||◌, Float}
use Rattle.std.specs.Float.Ieee.{lt, le, neg}
use Rattle.numbers.specs.Words.{◌⊗◌, zero, half, two, tiny, abs}

abbrev pub is_tiny : Float → Bool
is_tiny g = lt (abs g) tiny

module _ (P N : Float) where
  -- step 1
  unfoldable pub flat : Bool
  flat = is_tiny P && is_tiny N

  -- step 2, but for positivity
  unfoldable pub min_fits : Bool
  min_fits = le (neg two ⊗ N) P && lt (neg half ⊗ N) P

  -- step 3: its three regions; what lies in none of them is the fourth
  unfoldable pub in_first : Bool
  in_first =
      lt zero P && (le N (neg half ⊗ P) && le (neg two ⊗ P) N)
      || lt P zero && (le (neg half ⊗ P) N && le N (neg two ⊗ P))

  unfoldable pub in_second : Bool
  in_second = lt P zero && lt (neg two ⊗ P) N || lt zero P && lt N (neg two ⊗ P)

  unfoldable pub in_third : Bool
  in_third =
      lt zero P && (lt N zero && lt (neg half ⊗ P) N)
      || lt P zero && (lt zero N && lt N (neg half ⊗ P))

-- A list without its first number, as a slice pattern gives it.
use Prim.Native.Nat.{ℕ, ◌+◌, ◌-◌, ◌<◌}
use native.Mathlib.Omega.{arith}
use mathlib.Core.List.{List}
use mathlib.Core.Path.{◌≡◌, ap, ◌∙◌}
use lib.Ieee.{Float, nan}
use lib.ListN.{length, take, drop, length-drop}
use lib.ListN.{get_or}
use lib.Seq.{length-take-le, get_or-take, get_or-drop}
use Rattle.table.specs.Table.{at}

module _ (xs : List Float) where
  abbrev pub rest : List Float
  rest = take (length xs - 1) (drop 1 xs)

  pub rest_length : length rest ≡ length xs - 1
  rest_length = length-take-le (length xs - 1) (drop 1 xs) (rw length-drop (omega arith))

  pub rest_at : (i : ℕ) → i < length rest → get_or rest i nan ≡ at xs (i + 1)
  rest_at i l = get_or-take (length xs - 1) (drop 1 xs) i nan (omega (arith, l, rest_length)) ∙ get_or-drop 1 xs i nan ∙ ap (at xs) (omega arith)

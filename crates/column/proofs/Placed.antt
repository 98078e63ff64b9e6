-- What accepted places say: both are knots, and the column has an entry for each.
use Rattle.std.specs.Prelude.{Err, Ok}
use Prim.Native.Nat.{ℕ, ◌≤◌, ◌<◌}
use mathlib.Core.Bool.{◌&&◌}
use mathlib.Core.List.{List}
use mathlib.Core.Path.{◌≡◌}
use borrow.Author.Tests.{ltb-true, ltb-false, not-false}
use lib.Dec.{ltb}
use lib.Ieee.{Float}
use lib.ListN.{length}
use Rattle.numbers.specs.Marks.{mark}
use Rattle.numbers.specs.declared.Marked.{Marked}
use Rattle.numbers.proofs.Every.{and_split}
use Rattle.refusal.specs.Refusal.{first, Verdict}
use Rattle.refusal.specs.declared.Refusal.{Refusal}
use Rattle.refusal.proofs.First.{passed}
use Rattle.column.specs.Between.{between_tests, between_by}

pub record Placed (x : List Float) (column i j : ℕ) : Type 0 where
  pub high : length x ≤ 4096
  pub room : length x ≤ column
  pub order : i < j
  pub inside : j < length x

pub placed : (x : List Float) (column i j : ℕ) → first (between_tests x column i j) ≡ Ok tt → Placed x column i j
placed x column i j h =
    let (_, (_, (_, (high, (room, (order, _)))))) = passed (between_tests x column i j) h in
    let (before, within) = and_split (ltb i j) (ltb j (length x)) (not-false (ltb i j && ltb j (length x)) order) in
    record { high = ltb-false 4096 (length x) high; room = ltb-false column (length x) room; order = ltb-true i j before; inside = ltb-true j (length x) within }

-- an answer by the verdict
pub between : (v : Verdict) (price : Float) (m : Marked) → v ≡ Ok tt → m ≡ mark price → Ok m ≡ between_by v price
between v price m e f = rw (e, f)

pub not_between : (v : Verdict) (r : Refusal) (price : Float) → v ≡ Err r → Err r ≡ between_by v price
not_between v r price e = rw e

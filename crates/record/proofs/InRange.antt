-- What an accepted record number tells.
use Rattle.std.specs.Prelude.{Ok}
use Prim.Native.Nat.{ℕ, ◌-◌, ◌*◌, ◌≤◌, ◌<◌}
use mathlib.Core.Path.{◌≡◌}
use borrow.Author.Tests.{ltb-false, leb-false}
use Rattle.numbers.specs.Sizes.{slot_count}
use Rattle.record.specs.Reader.{record_tests, record_verdict}
use Rattle.refusal.proofs.First.{passed}

pub record InRange (points room number : ℕ) : Type 0 where
  pub low : 2 ≤ points
  pub high : points ≤ 4096
  pub fits : slot_count * (points - 1) ≤ room
  pub below : number < points - 1

pub in_range : (points room number : ℕ) → record_verdict points room number ≡ Ok tt → InRange points room number
in_range points room number h =
    let (few, (many, (short, (past, end)))) = passed (record_tests points room number) h in
    record {
      low = ltb-false points 2 few;
      high = ltb-false 4096 points many;
      fits = ltb-false room (slot_count * (points - 1)) short;
      below = leb-false (points - 1) number past;
    }

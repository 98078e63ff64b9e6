-- There is room for the words so far.
use Prim.Native.Nat.{◌≤◌}
use Rattle.replay.proofs.words.Words.of_bytes.Given as goal

abbrev pub invariant-loop-piece : goal.invariant-loop-piece
invariant-loop-piece l = l.count ≤ 72

-- The flag is the test of the slots so far.
use mathlib.Core.Path.{◌≡◌}
use Rattle.numbers.specs.Every.{all_below}
use Rattle.numbers.specs.Words.{ordinary_size}
use Rattle.record.specs.Reading.{slot}
use Rattle.record.proofs.ordinary.are_of_size.Given as goal

abbrev pub invariant-loop-x : goal.invariant-loop-x
invariant-loop-x l = l.all ≡ all_below l.x-index (λ k. ordinary_size (slot l.slots k))

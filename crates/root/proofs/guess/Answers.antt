-- `root::guess` meets its contract, which promises nothing of the answer: the pattern that is read as a float is no NaN's.
use native.Mathlib.Omega.{arith}
use Rattle.std.proofs.lemmas.Float.{T_from_false}
use Rattle.numbers.proofs.Nan.{pattern_number}
use Rattle.root.proofs.guess.Goals as goal

pub float_from_bits-y : goal.float_from_bits-y
float_from_bits-y c = T_from_false _ (pattern_number _ (omega arith))

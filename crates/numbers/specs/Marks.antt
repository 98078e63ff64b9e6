-- 02, K7: a number with the mark whether it is finite.
use Rattle.std.specs.Prelude.{Float}
use Rattle.numbers.specs.Words.{finite}
use Rattle.numbers.specs.declared.Marked.{Marked}

abbrev pub mark : Float → Marked
mark x = record { number = x; finite = finite x }

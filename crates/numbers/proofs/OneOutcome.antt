-- Two pairs are the same where their parts are.
use mathlib.Core.Path.{◌≡◌}
use Rattle.numbers.specs.OneOutcome.{pair}

pub both : {A B : Type 0} {a c : A} {b d : B} → a ≡ c → b ≡ d → pair a b ≡ pair c d
both e f = rw (e, f)

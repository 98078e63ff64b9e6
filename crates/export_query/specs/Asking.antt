-- 01, Queries, settings and growth: where a query's answer goes. 02, K7: a number that is not finite is not written.
use Rattle.std.specs.Prelude.{ℕ, List, Float, length, set, Err, Ok}
use Rattle.numbers.specs.OneOutcome.{pair}
use Rattle.refusal.specs.Refusal.{first, Verdict}
use Rattle.query.specs.Many.{many_tests}
use Rattle.query.specs.Query.{number_in, verdict_in, answer_in_numbers, QueryAnswer}

-- a query after the tests of 4, 5, 7, 10 and 11, of which the last is also that of the answer's own slice
abbrev pub asked_by : Verdict → QueryAnswer → QueryAnswer
asked_by (Ok tt) asked = asked
asked_by (Err r) asked = Err r

-- a number is written where nothing refuses it
abbrev pub left_of : Verdict → Float → List Float → List Float
left_of (Ok tt) v old = set old 0 v
left_of (Err r) v old = old

abbrev pub number_left : QueryAnswer → List Float → List Float
number_left k old = left_of (verdict_in k) (number_in k) old

-- what comes back for an answer, and what its slice holds afterwards
abbrev pub left_by : QueryAnswer → List Float → ℕ × List Float
left_by asked old = pair (answer_in_numbers asked).refusal (number_left asked old)

-- the same of a query of these knots and of so many tags and slots: one query, and the slice that is lent for its answer
abbrev pub answer_into : List Float → ℕ → ℕ → QueryAnswer → List Float → ℕ × List Float
answer_into x tags slots asked old = left_by (asked_by (first (many_tests x tags slots 1 (length old))) asked) old

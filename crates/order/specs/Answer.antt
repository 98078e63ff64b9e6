-- 01, The order program: the text that answers an order. 02, K7: a query with a number that is not finite is refused.
use Rattle.std.specs.Prelude.{ℕ, ◌+◌, ◌-◌, ◌*◌, ◌/◌, ◌%◌, cond, List, ltb, Float, length, replicate, Result, Ok, Err, None}
use Rattle.std.specs.Float.{binary64}
use Rattle.std.specs.Float.Ieee.{to_bits}
use Rattle.numbers.specs.OneOutcome.{pair}
use Rattle.numbers.specs.Overlay.{overlay}
use Rattle.numbers.specs.Sizes.{slot_count}
use Rattle.numbers.specs.Words.{zero}
use Rattle.refusal.specs.Refusal.{number, and_then, Verdict}
use Rattle.refusal.specs.declared.Refusal.{Refusal}
use Rattle.refusal.specs.declared.Refusal.TheVariants.{BufferTooShort, OrderMalformed}
use Rattle.section.specs.Section.{value, primitive}
use Rattle.table.specs.Buffers.{Buffers, Outcome, buffers}
use Rattle.curve.specs.Build.{build_outcome}
use Rattle.curve.specs.Curve.{with_extrapolation, Built}
use Rattle.query.specs.Query.{covered_at, ask, number_in, verdict_in, QueryAnswer}
use Rattle.curve.specs.declared.curve.Curve.{Curve}
use Rattle.order.specs.Form.{number_at, well_formed, points, queries, hold, allow, method, knots, averages}
use Rattle.order.specs.Text.{build_byte, query_byte}
use Rattle.order.specs.declared.asking.Line.{Line}

-- a refusal's number with zeros, or 0 with the bits of a value and of a primitive
abbrev pub refused_line : Refusal → Line
refused_line r = record { refusal = number r; value = 0; primitive = 0 }

abbrev pub line_by : Verdict → Float → Float → Line
line_by (Ok tt) v p = record { refusal = 0; value = to_bits binary64 v; primitive = to_bits binary64 p }
line_by (Err r) v p = refused_line r

-- what refuses the value comes first, then what refuses the primitive: they share all refusals but 21, which each has by its own number
abbrev pub line_for : QueryAnswer → QueryAnswer → Line
line_for v p = line_by (and_then (verdict_in v) (verdict_in p)) (number_in v) (number_in p)

-- what a query is answered
abbrev pub line_of : List Float → Curve → List ℕ → List Float → Float → Line
line_of x c tags slots q = line_for (ask (λ s. value s q) (covered_at x c tags slots q)) (ask (λ s. primitive s q) (covered_at x c tags slots q))

-- byte i of all lines of queries in a row; the first query stands at place `from` of the order
abbrev pub line_byte : List ℕ → ℕ → List Float → Curve → List ℕ → List Float → ℕ → ℕ
line_byte o from x c tags slots i =
    let l = line_of x c tags slots (number_at o (from + 8 * (i / 39))) in
    query_byte l.refusal l.value l.primitive (i % 39)

-- a curve has a line of its own and one to each query, a refused build only its own
abbrev pub length_for : List ℕ → Built → ℕ
length_for o (Ok c) = 10 + 39 * queries o
length_for o (Err r) = 10

abbrev pub byte_for : List ℕ → List Float → List ℕ → List Float → Built → ℕ → ℕ
byte_for o x tags slots (Ok c) i =
    cond (ltb i 10) (build_byte 0 c.sections i) (line_byte o (20 + 16 * points o) x (with_extrapolation c (allow o)) tags slots (i - 10))
byte_for o x tags slots (Err r) i = build_byte (number r) 0 i

-- how long the text of a build is, and what a buffer holds with the text in it
abbrev pub text_for : List ℕ → List Float → Outcome Built → List ℕ → ℕ × List ℕ
text_for o x made out =
    pair (length_for o made.answer) (overlay 0 (length_for o made.answer) (byte_for o x made.buffers.tags made.buffers.slots made.answer) out)

-- the build that an order asks for of a table, into lent buffers
abbrev pub ordered : List ℕ → List Float → List Float → Buffers → Outcome Built
ordered o x y b = build_outcome x y (method o) (hold o) None b

-- buffers for the largest table that an order can have
abbrev pub room : Buffers
room = buffers (replicate 200 zero) (replicate 200 0) (replicate (200 * slot_count) zero)

-- an order's text; one that is not well formed gets its refusal
abbrev pub text_of : List ℕ → List ℕ → ℕ × List ℕ
text_of o out = cond (well_formed o) (text_for o (knots o) (ordered o (knots o) (averages o) room) out) (pair 10 (overlay 0 10 (build_byte (number OrderMalformed) 0) out))

-- what answering returns: how long the text is, or that the buffer could not hold the longest
abbrev pub OrderAnswer : Type 0
OrderAnswer = Result ℕ Refusal

-- a buffer of fewer bytes than the longest text has is refused, and not written to
abbrev pub answered : List ℕ → List ℕ → OrderAnswer × List ℕ
answered o out = cond (ltb (length out) 2506) (pair (Err BufferTooShort) out) (let text = text_of o out in pair (Ok text.0) text.1)

-- in the documents' numbers: 0 with the length of the text, or 11 with none
abbrev pub order_in_numbers : OrderAnswer → ℕ × ℕ
order_in_numbers (Ok long) = pair 0 long
order_in_numbers (Err r) = pair (number r) 0

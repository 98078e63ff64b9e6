-- Many queries of one curve. Each gets the number that it gets by itself, and the first that is refused refuses all.
use Rattle.std.specs.Prelude.{ℕ, zero, suc, List, [], ◌∷◌, ◌++◌, ltb, Float, length, Result, Ok, Err}
use Rattle.numbers.specs.OneOutcome.{pair}
use Rattle.numbers.specs.Overlay.{overlay}
use Rattle.section.specs.declared.section.Section.{Section}
use Rattle.refusal.specs.Refusal.{Test, ◌⇒◌, first, number, Verdict}
use Rattle.refusal.specs.declared.Refusal.TheVariants.{BufferTooShort}
use Rattle.table.specs.Table.{at}
use Rattle.curve.specs.declared.curve.Curve.{Curve}
use Rattle.query.specs.Query.{curve_tests, covered_at, ask, number_in, verdict_in, QueryAnswer}
use Rattle.query.specs.declared.answer.ManyRefusal.{ManyRefusal}
use Rattle.query.specs.declared.answer.ManyRefusal.TheVariants as many
use Rattle.query.specs.declared.answer.ManyInNumbers.{ManyInNumbers}

-- what many queries are answered: every number, or none, for a fault of all or for the first query that is refused, counted from 0
abbrev pub ManyAnswer : Type 0
ManyAnswer = Result (Unit {0}) ManyRefusal

-- of n verdicts, in their order: the first refusal, and whose it is
abbrev pub or_next : ManyAnswer → ManyAnswer → ManyAnswer
or_next (Ok tt) next = next
or_next (Err m) next = Err m

abbrev pub at_place : ℕ → Verdict → ManyAnswer
at_place k (Ok tt) = Ok tt
at_place k (Err r) = Err (many.Query r k)

unfoldable pub first_refused : ℕ → (ℕ → Verdict) → ManyAnswer
first_refused zero f = Ok tt
first_refused (suc n) f = or_next (first_refused n f) (at_place n (f n))

-- 4, 5, 7, 10, 11, and 11 again for the answers, of which no query is to blame
abbrev pub many_tests : List Float → ℕ → ℕ → ℕ → ℕ → List Test
many_tests x tags slots queries room = curve_tests x tags slots ++ (ltb room queries ⇒ BufferTooShort) ∷ []

abbrev pub of_all : Verdict → ManyAnswer
of_all (Ok tt) = Ok tt
of_all (Err r) = Err (many.Whole r)

-- what one query is answered, and the number that the formula gives, by its bits
module _ (f : Section → Float → Float) (x : List Float) (curve : Curve) (tags : List ℕ) (slots : List Float) where
  abbrev pub ask_at : Float → QueryAnswer
  ask_at q = ask (λ s. f s q) (covered_at x curve tags slots q)

  abbrev pub formula_at : Float → Float
  formula_at q = number_in (ask_at q)

  -- then 12, 13, 15, 21 of each query
  abbrev pub queries_verdict : List Float → ManyAnswer
  queries_verdict qs = first_refused (length qs) (λ i. verdict_in (ask_at (at qs i)))

  abbrev pub many_verdict : List Float → ℕ → ManyAnswer
  many_verdict qs room = or_next (of_all (first (many_tests x (length tags) (length slots) (length qs) room))) (queries_verdict qs)

  abbrev pub answers_after : List Float → List Float → List Float
  answers_after qs out = overlay 0 (length qs) (λ i. formula_at (at qs i)) out

-- what a check of many says and what the slice of answers holds afterwards: as it was, where the check refuses
abbrev pub many_by : ManyAnswer → List Float → List Float → ManyAnswer × List Float
many_by (Ok tt) new old = pair (Ok tt) new
many_by (Err m) new old = pair (Err m) old

abbrev pub many_outcome : (Section → Float → Float) → List Float → Curve → List ℕ → List Float → List Float → List Float → ManyAnswer × List Float
many_outcome f x curve tags slots qs out = many_by (many_verdict f x curve tags slots qs (length out)) (answers_after f x curve tags slots qs out) out

-- in the documents' numbers: the refusal's, or 0, and which query was refused first; their count where none was
abbrev pub many_in_numbers : ManyAnswer → ℕ → ManyInNumbers
many_in_numbers (Ok tt) count = record { refusal = 0; query = count }
many_in_numbers (Err (many.Whole r)) count = record { refusal = number r; query = count }
many_in_numbers (Err (many.Query r k)) count = record { refusal = number r; query = k }

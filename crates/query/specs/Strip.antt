-- 02, K1: the price of a strip, by the totals up to its two ends. K7: it is marked by its own number.
use Rattle.query.specs.declared.answer.ManyRefusal.TheVariants as many
use Rattle.std.specs.Prelude.{ℕ, ◌+◌, ◌-◌, cond, List, eqb, Float, length, Err, Ok}
use Rattle.std.specs.Float.Ieee.{lt}
use Rattle.numbers.specs.Marks.{mark}
use Rattle.numbers.specs.OneOutcome.{pair}
use Rattle.numbers.specs.Overlay.{overlay}
use Rattle.numbers.specs.Words.{◌⊖◌, ◌⊘◌}
use Rattle.section.specs.Section.{primitive}
use Rattle.refusal.specs.Refusal.{first}
use Rattle.refusal.specs.declared.Refusal.TheVariants.{LengthsDiffer, StripEndsNotRising}
use Rattle.table.specs.Table.{at}
use Rattle.curve.specs.declared.curve.Curve.{Curve}
use Rattle.query.specs.Many.{or_next, first_refused, many_tests, of_all, many_by, ManyAnswer}
use Rattle.query.specs.Query.{covered_at, ask, number_in, verdict_in, QueryAnswer}

-- What was totalled up to b and not up to a, over the length: the refusals of a's query come first, then those of b's, then 18.
abbrev pub strip_of : Float → Float → QueryAnswer → QueryAnswer → QueryAnswer
strip_of a b (Err r) up_to_b = Err r
strip_of a b (Ok p) (Err r) = Err r
strip_of a b (Ok p) (Ok q) =
    cond (lt a b) (Ok (mark ((q.number ⊖ p.number) ⊘ (b ⊖ a)))) (Err StripEndsNotRising)

module _ (x : List Float) (curve : Curve) (tags : List ℕ) (slots : List Float) where
  -- what the `primitive` query answers
  abbrev pub total_to : Float → QueryAnswer
  total_to q = ask (λ s. primitive s q) (covered_at x curve tags slots q)

  unfoldable pub strip_at : Float → Float → QueryAnswer
  strip_at a b = strip_of a b (total_to a) (total_to b)

-- Many strips, of which strip k goes from `from k` to `to k`. Each gets the number that it gets by itself, and the first that is refused refuses all.
module _ (x : List Float) (curve : Curve) (tags : List ℕ) (slots : List Float) (count : ℕ) (from to : ℕ → Float) where
  abbrev pub strips_verdict : ManyAnswer
  strips_verdict = first_refused count (λ k. verdict_in (strip_at x curve tags slots (from k) (to k)))

  abbrev pub strips_after : List Float → List Float
  strips_after out = overlay 0 count (λ k. number_in (strip_at x curve tags slots (from k) (to k))) out

  abbrev pub strips_outcome : List Float → ManyAnswer × List Float
  strips_outcome out =
      many_by (or_next (of_all (first (many_tests x (length tags) (length slots) count (length out)))) strips_verdict) (strips_after out) out

-- from each start to the end beside it; as many of the one as of the other
abbrev pub pairs_outcome : List Float → Curve → List ℕ → List Float → List Float → List Float → List Float → ManyAnswer × List Float
pairs_outcome x curve tags slots starts ends out =
    cond (eqb (length starts) (length ends))
    (strips_outcome x curve tags slots (length starts) (at starts) (at ends) out)
    (pair (Err (many.Whole LengthsDiffer)) out)

-- from each edge to the next
abbrev pub run_outcome : List Float → Curve → List ℕ → List Float → List Float → List Float → ManyAnswer × List Float
run_outcome x curve tags slots edges out = strips_outcome x curve tags slots (length edges - 1) (at edges) (λ k. at edges (k + 1)) out

-- 02, K1: where the price of a strip goes
use Rattle.std.specs.Prelude.{ℕ, cond, List, [], ltb, Float, length}
use Rattle.numbers.specs.OneOutcome.{pair}
use Rattle.curve.specs.declared.curve.Curve.{Curve}
use Rattle.query.specs.Query.{answer_in_numbers}
use Rattle.query.specs.Strip.{strip_at}
use Rattle.export_query.specs.Asking.{left_by}

-- With no room for the answer the strip is refused as one of a curve without records is: by 4, 5, 7 and 10, and else by 11.
abbrev pub strip_into : List Float → Curve → List ℕ → List Float → Float → Float → List Float → ℕ × List Float
strip_into x curve tags slots a b old =
    cond (ltb (length old) 1)
    (pair (answer_in_numbers (strip_at x curve [] slots a b)).refusal old)
    (left_by (strip_at x curve tags slots a b) old)

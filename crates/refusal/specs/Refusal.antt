-- 01, Refusal numbers. 02, K1: 18. K2: 19. K7: 21.
use Rattle.std.specs.Prelude.{ℕ, Bool, cond, List, [], ◌∷◌, Result, Ok, Err}
use Rattle.refusal.specs.declared.Refusal.{Refusal}
use Rattle.refusal.specs.declared.Refusal.TheVariants.{LengthsDiffer, MonotonicityOutside, QuadraticityOutside, TooFewPoints, KnotNotFinite, AverageNotFinite, KnotsNotRising, SeamTooLong, NoPreviousCurve, TooManyPoints, BufferTooShort, QueryNotANumber, QueryOutside, DerivativeAsked, RecordNotLegal, NoGivenNode, OrderMalformed, StripEndsNotRising, MonthsNotPeriods, NotFinite, CutsNotInner, AverageBelowZero, SplitUnknown}

abbrev pub number : Refusal → ℕ
number LengthsDiffer = 1
number MonotonicityOutside = 2
number QuadraticityOutside = 3
number TooFewPoints = 4
number KnotNotFinite = 5
number AverageNotFinite = 6
number KnotsNotRising = 7
number SeamTooLong = 8
number NoPreviousCurve = 9
number TooManyPoints = 10
number BufferTooShort = 11
number QueryNotANumber = 12
number QueryOutside = 13
number DerivativeAsked = 14
number RecordNotLegal = 15
number NoGivenNode = 16
number OrderMalformed = 17
number StripEndsNotRising = 18
number MonthsNotPeriods = 19
number NotFinite = 21
number CutsNotInner = 28
number AverageBelowZero = 29
number SplitUnknown = 30

-- what a check says of an input
abbrev pub Verdict : Type 0
Verdict = Result (Unit {0}) Refusal

-- a verdict's number: 0, or the refusal's
abbrev pub verdict_number : Verdict → ℕ
verdict_number (Ok tt) = 0
verdict_number (Err r) = number r

-- A check in its order: the first test that holds names the refusal.
pub record Test : Type 0 where
  pub holds : Bool
  pub refusal : Refusal

abbrev pub ◌⇒◌ : Bool → Refusal → Test
b ⇒ r = record { holds = b; refusal = r }

infix 20 ◌⇒◌
abbrev pub first : List Test → Verdict
first [] = Ok tt
first (t ∷ ts) = cond t.holds (Err t.refusal) (first ts)

-- one check after another: the second speaks only where the first accepts
abbrev pub and_then : Verdict → Verdict → Verdict
and_then (Ok tt) v = v
and_then (Err r) v = Err r

-- 01, Refusal numbers; Queries, settings and growth: what a build answers, also in numbers.
use Rattle.std.specs.Prelude.{Bool, false, Result, Ok, Err}
use Rattle.numbers.specs.Words.{zero}
use Rattle.refusal.specs.Refusal.{number}
use Rattle.refusal.specs.declared.Refusal.{Refusal}
use Rattle.curve.specs.declared.curve.Curve.{Curve}
use Rattle.curve.specs.declared.curve.CurveInNumbers.{CurveInNumbers}

-- what a build answers
abbrev pub Built : Type 0
Built = Result Curve Refusal

abbrev pub with_extrapolation : Curve → Bool → Curve
with_extrapolation c allow = record { sections = c.sections; held = c.held; extrapolates = allow; tail = c.tail }

-- in the documents' numbers: the refusal's, or 0, with all that a curve has
abbrev pub curve_in_numbers : Built → CurveInNumbers
curve_in_numbers (Ok c) = record { refusal = 0; sections = c.sections; held = c.held; extrapolates = c.extrapolates; tail = c.tail }
curve_in_numbers (Err r) = record { refusal = number r; sections = 0; held = false; extrapolates = false; tail = record { value = zero; total = zero; from = zero } }

-- Any two outcomes that a contract allows are the same, of each contract as the checker reads it.
use mathlib.Core.Path.{◌∙◌, sym}
use Rattle.numbers.specs.OneOutcome.{OneAnswer, OneOutcome, pair}
use Rattle.months.specs.Building.{monthly}
use Rattle.months.proofs.periods.periods_of.Reads as periods-of
use Rattle.months.proofs.knots.month_knots.Reads as month-knots
use Rattle.months.proofs.building.build_months_verdict.Reads as build-months-verdict
use Rattle.months.proofs.building.build_months.Reads as build-months

pub periods_of_unique : OneAnswer periods-of.Post
periods_of_unique κ a r₁ r₂ s t p q = p ∙ sym q

pub month_knots_unique : OneOutcome month-knots.Post (λ κ r s. let (_, (_, (_, (knots, _)))) = s in pair r knots.now)
month_knots_unique κ a r₁ r₂ s t p q = p ∙ sym q

pub build_months_verdict_unique : OneAnswer build-months-verdict.Post
build_months_verdict_unique κ a r₁ r₂ s t p q = p ∙ sym q

pub build_months_unique : OneOutcome build-months.Post (λ κ r s. let (_, (_, (_, (_, (_, (_, (_, (knots, (nodes, (tags, (slots, _))))))))))) = s in monthly r knots.now nodes.now tags.now slots.now)
build_months_unique κ a r₁ r₂ s t p q = p ∙ sym q

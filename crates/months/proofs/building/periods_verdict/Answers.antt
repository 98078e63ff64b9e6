-- Each return by the tests that led there, in their order.
use Rattle.std.specs.Prelude.{Err}
use mathlib.Core.Path.{◌≡◌, ◌∙◌}
use borrow.Author.Tests.{lt-ltb, le-ltb, eq-eqb, ne_eqb}
use lib.ListN.{length}
use Rattle.numbers.proofs.Ways.{returned}
use Rattle.refusal.specs.declared.Refusal.TheVariants.{LengthsDiffer, MonotonicityOutside, QuadraticityOutside, AverageNotFinite, SeamTooLong, AverageBelowZero, BufferTooShort}
use Rattle.months.proofs.Asked.{known, is_asked}
use Rattle.months.proofs.building.periods_verdict.Goals as goal

pub returns-then-count-averages : goal.returns-then-count-averages
returns-then-count-averages c =
    let a = c.args in
    let e : Err LengthsDiffer ≡ known a.periods a.averages.now a.method a.seam a.knots a.nodes a.tags a.slots c.requires = rw (ne_eqb a.periods.knots (length a.averages.now) c.if-count-averages.true) in
    e ∙ is_asked a.periods a.averages.now a.method a.seam a.knots a.nodes a.tags a.slots c.requires

pub returns-then-not-in_unit : goal.returns-then-not-in_unit
returns-then-not-in_unit c =
    let a = c.args in
    let e : Err MonotonicityOutside ≡ known a.periods a.averages.now a.method a.seam a.knots a.nodes a.tags a.slots c.requires = rw (
      eq-eqb a.periods.knots (length a.averages.now) c.if-count-averages.false,
      returned c.in_unit.ensures c.if-not-in_unit.true,
    ) in
    e ∙ is_asked a.periods a.averages.now a.method a.seam a.knots a.nodes a.tags a.slots c.requires

pub returns-then-not-in_unit-2 : goal.returns-then-not-in_unit-2
returns-then-not-in_unit-2 c =
    let a = c.args in
    let e : Err QuadraticityOutside ≡ known a.periods a.averages.now a.method a.seam a.knots a.nodes a.tags a.slots c.requires = rw (
      eq-eqb a.periods.knots (length a.averages.now) c.if-count-averages.false,
      returned c.in_unit.ensures c.if-not-in_unit.false,
      returned c.in_unit-2.ensures c.if-not-in_unit-2.true,
    ) in
    e ∙ is_asked a.periods a.averages.now a.method a.seam a.knots a.nodes a.tags a.slots c.requires

pub returns-then-not-all_finite : goal.returns-then-not-all_finite
returns-then-not-all_finite c =
    let a = c.args in
    let e : Err AverageNotFinite ≡ known a.periods a.averages.now a.method a.seam a.knots a.nodes a.tags a.slots c.requires = rw (
      eq-eqb a.periods.knots (length a.averages.now) c.if-count-averages.false,
      returned c.in_unit.ensures c.if-not-in_unit.false,
      returned c.in_unit-2.ensures c.if-not-in_unit-2.false,
      returned c.all_finite.ensures c.if-not-all_finite.true,
    ) in
    e ∙ is_asked a.periods a.averages.now a.method a.seam a.knots a.nodes a.tags a.slots c.requires

pub returns-then-seam_too_long : goal.returns-then-seam_too_long
returns-then-seam_too_long c =
    let a = c.args in
    let e : Err SeamTooLong ≡ known a.periods a.averages.now a.method a.seam a.knots a.nodes a.tags a.slots c.requires = rw (
      eq-eqb a.periods.knots (length a.averages.now) c.if-count-averages.false,
      returned c.in_unit.ensures c.if-not-in_unit.false,
      returned c.in_unit-2.ensures c.if-not-in_unit-2.false,
      returned c.all_finite.ensures c.if-not-all_finite.false,
      returned c.seam_too_long.ensures c.if-seam_too_long.true,
    ) in
    e ∙ is_asked a.periods a.averages.now a.method a.seam a.knots a.nodes a.tags a.slots c.requires

pub returns-then-average_below : goal.returns-then-average_below
returns-then-average_below c =
    let a = c.args in
    let e : Err AverageBelowZero ≡ known a.periods a.averages.now a.method a.seam a.knots a.nodes a.tags a.slots c.requires = rw (
      eq-eqb a.periods.knots (length a.averages.now) c.if-count-averages.false,
      returned c.in_unit.ensures c.if-not-in_unit.false,
      returned c.in_unit-2.ensures c.if-not-in_unit-2.false,
      returned c.all_finite.ensures c.if-not-all_finite.false,
      returned c.seam_too_long.ensures c.if-seam_too_long.false,
      returned c.average_below.ensures c.if-average_below.true,
    ) in
    e ∙ is_asked a.periods a.averages.now a.method a.seam a.knots a.nodes a.tags a.slots c.requires

pub returns-then-knots-count : goal.returns-then-knots-count
returns-then-knots-count c =
    let a = c.args in
    let e : Err BufferTooShort ≡ known a.periods a.averages.now a.method a.seam a.knots a.nodes a.tags a.slots c.requires = rw (
      eq-eqb a.periods.knots (length a.averages.now) c.if-count-averages.false,
      returned c.in_unit.ensures c.if-not-in_unit.false,
      returned c.in_unit-2.ensures c.if-not-in_unit-2.false,
      returned c.all_finite.ensures c.if-not-all_finite.false,
      returned c.seam_too_long.ensures c.if-seam_too_long.false,
      returned c.average_below.ensures c.if-average_below.false,
      lt-ltb a.knots a.periods.knots c.if-knots-count.true,
    ) in
    e ∙ is_asked a.periods a.averages.now a.method a.seam a.knots a.nodes a.tags a.slots c.requires

pub returns : goal.returns
returns c =
    let a = c.args in
    let e : c.room_verdict.result ≡ known a.periods a.averages.now a.method a.seam a.knots a.nodes a.tags a.slots c.requires = rw (
      eq-eqb a.periods.knots (length a.averages.now) c.if-count-averages.false,
      returned c.in_unit.ensures c.if-not-in_unit.false,
      returned c.in_unit-2.ensures c.if-not-in_unit-2.false,
      returned c.all_finite.ensures c.if-not-all_finite.false,
      returned c.seam_too_long.ensures c.if-seam_too_long.false,
      returned c.average_below.ensures c.if-average_below.false,
      le-ltb a.knots a.periods.knots c.if-knots-count.false,
    ) c.room_verdict.ensures in
    e ∙ is_asked a.periods a.averages.now a.method a.seam a.knots a.nodes a.tags a.slots c.requires

-- A curve that its slices hold is read within them.
use mathlib.Core.Bool.{false}
use mathlib.Core.Path.{◌≡◌}
use lib.ListN.{length}
use Rattle.growth.specs.Growth.{beyond}
use Rattle.growth.proofs.Seams.{of_none, of_beyond, of_held, of_free}
use Rattle.numbers.proofs.Ways.{returned}
use Rattle.growth.proofs.growth.seam_of.Goals as goal

pub returns-then-sections-eq0 : goal.returns-then-sections-eq0
returns-then-sections-eq0 c = let a = c.args in of_none a.curve a.tags.now a.slots.now c.if-sections-eq0.true

pub returns-then-is_beyond : goal.returns-then-is_beyond
returns-then-is_beyond c = let a = c.args in
    of_beyond a.curve a.tags.now a.slots.now c.if-sections-eq0.false (returned c.is_beyond.ensures c.if-is_beyond.true)

pub returns-then-curve : goal.returns-then-curve
returns-then-curve c =
    let within : let a = c.args in beyond a.curve.sections (length a.tags.now) (length a.slots.now) ≡ false = returned c.is_beyond.ensures c.if-is_beyond.false in
    let a = c.args in
    of_held a.curve a.tags.now a.slots.now _ c.if-sections-eq0.false within c.if-curve.true c.seam_after.ensures

pub returns : goal.returns
returns c =
    let within : let a = c.args in beyond a.curve.sections (length a.tags.now) (length a.slots.now) ≡ false = returned c.is_beyond.ensures c.if-is_beyond.false in
    let a = c.args in
    of_free a.curve a.tags.now a.slots.now _ c.if-sections-eq0.false within c.if-curve.false c.seam_after-2.ensures

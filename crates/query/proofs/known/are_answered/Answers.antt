-- A curve of ordinary size, and points within its reach.
use mathlib.Core.Path.{sym, ◌∙◌}
use lib.ListN.{length}
use Rattle.query.proofs.Answers.{Reaches, reached}
use Rattle.query.proofs.Reach.{by_told, all_answered}
use Rattle.query.proofs.known.are_answered.Goals as goal

pub returns : goal.returns
returns c h w =
    let fits : let a = c.args in Reaches a.xs.now (length a.tags.now) (length a.slots.now) = let a = c.args in reached a.xs.now (length a.tags.now) (length a.slots.now) c.requires in
    let a = c.args in
    let e = c.lowest.ensures in
    let f = c.highest.ensures in
    all_answered a.xs.now a.curve a.tags.now a.slots.now c.requires fits.low (sym c.is_ordinary_curve.ensures ∙ h) w a.qs.now
    (by_told (length a.qs.now) a.qs.now e f (sym c.are_between.ensures ∙ c.if-not-are_between.false))

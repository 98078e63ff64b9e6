-- A section that covers the query is its place.
use mathlib.Core.Path.{sym, ◌∙◌}
use borrow.Author.Rules.{rules}
use Rattle.query.proofs.Sides.{covers_here}
use Rattle.query.proofs.place.place_from.Goals as goal

pub returns-then-covers : goal.returns-then-covers
returns-then-covers c = let a = c.args in covers_here a.xs.now a.q a.near c.requires.2 c.requires.0 (sym c.covers.ensures ∙ c.if-covers.true)

pub returns-then-covers-2 : goal.returns-then-covers-2
returns-then-covers-2 c = let a = c.args in covers_here a.xs.now a.q _ c.requires.2 (search rules) (sym c.covers-then-near-xs.ensures ∙ c.if-covers-2.true)

-- A curve of ordinary size, and strips within its reach whose ends are apart.
use mathlib.Core.Path.{sym, ap, ◌∙◌}
use lib.ListN.{length}
use Prim.Native.Nat.{ℕ}
use Rattle.numbers.specs.Every.{all_below}
use Rattle.table.specs.Table.{at}
use Rattle.query.specs.Steps.{lowest, highest, between}
use Rattle.query.proofs.Answers.{Reaches, reached}
use Rattle.query.proofs.Reach.{by_told, all_priced}
use Rattle.query.proofs.known.are_priced.Goals as goal

pub returns : goal.returns
returns c h =
    let fits : let a = c.args in Reaches a.xs.now (length a.tags.now) (length a.slots.now) = let a = c.args in reached a.xs.now (length a.tags.now) (length a.slots.now) c.requires.0 in
    let a = c.args in
    let e = c.lowest-low.ensures in
    let f = c.highest-high.ensures in
    all_priced a.xs.now a.curve a.tags.now a.slots.now c.requires.0 fits.low (sym c.is_ordinary_curve.ensures ∙ h) (length a.starts.now) (at a.starts.now) (at a.ends.now)
    (by_told (length a.starts.now) a.starts.now e f (sym c.are_between.ensures ∙ c.if-not-are_between.false))
    (ap (λ (n : ℕ). all_below n (λ k. between (lowest a.xs.now a.curve) (highest a.xs.now a.curve) (at a.ends.now k))) c.requires.1
    ∙ by_told (length a.ends.now) a.ends.now e f (sym c.are_between-2.ensures ∙ c.if-not-are_between-2.false))
    (sym c.are_apart.ensures ∙ c.if-not-are_apart.false)

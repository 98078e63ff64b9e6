-- Each edge but the last is a start, and each but the first an end.
use Prim.Native.Nat.{ℕ, ◌+◌, ◌-◌, ◌<◌}
use native.Mathlib.Omega.{arith}
use mathlib.Core.List.{List}
use mathlib.Core.Path.{◌≡◌, sym, ap, ◌∙◌}
use lib.Ieee.{Float, nan}
use lib.ListN.{length, take, drop, length-drop}
use lib.Seq.{length-take-le, get_or-take, get_or-drop}
use Rattle.table.specs.Table.{at}
use Rattle.query.proofs.ByParts.{same_ends}
use Rattle.query.proofs.strips.run.Goals as goal

module _ (edges : List Float) where
  abbrev starts : List Float
  starts = take (length edges - 1) edges

  abbrev ends : List Float
  ends = take (length edges - 1) (drop 1 edges)

  as_many : length starts ≡ length edges - 1
  as_many = length-take-le (length edges - 1) edges (omega arith)

  as_many_ends : length ends ≡ length edges - 1
  as_many_ends = length-take-le (length edges - 1) (drop 1 edges) (rw length-drop (omega arith))

  start_at_lem : (k : ℕ) → k < length edges - 1 → at starts k ≡ at edges k
  start_at_lem k l = get_or-take (length edges - 1) edges k nan l

  end_at : (k : ℕ) → k < length edges - 1 → at ends k ≡ at edges (k + 1)
  end_at k l = get_or-take (length edges - 1) (drop 1 edges) k nan l ∙ get_or-drop 1 edges k nan ∙ ap (at edges) (omega arith)

  next : (k : ℕ) → k + 1 < length starts → at starts (k + 1) ≡ at ends k
  next k l = start_at_lem (k + 1) (omega (arith, l, as_many)) ∙ sym (end_at k (omega (arith, l, as_many)))

pub returns : goal.returns
returns c =
    let a = c.args in
    let edges = a.edges.now in
    c.priced-2.ensures
    ∙ same_ends a.xs.now a.curve a.tags.now a.slots.now _ _ _ _ _ _ a.out.now (as_many edges) (λ k l. (start_at_lem edges k l, end_at edges k l))

pub returns-then-edges-eq0 : goal.returns-then-edges-eq0
returns-then-edges-eq0 c =
    let a = c.args in
    let none : length a.edges.now ≡ 0 = c.if-edges-eq0.true in
    c.priced.ensures
    ∙ same_ends a.xs.now a.curve a.tags.now a.slots.now _ _ _ _ _ _ a.out.now (omega (arith, none)) (λ k l. absurd (omega (arith, none, l)))

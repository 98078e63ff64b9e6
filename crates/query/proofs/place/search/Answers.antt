-- The last stride leaves less than one step.
use native.Mathlib.Omega.{arith}
use Rattle.query.proofs.Walk.{place_le}
use Rattle.query.proofs.Sides.{before_least}
use Rattle.query.proofs.place.search.Goals as goal

pub stride-far-requires : goal.stride-far-requires
stride-far-requires c = let a = c.args in
    let p = c.requires in
    (omega arith, omega (arith, p.0, place_le a.xs.now a.q), omega (arith, p.0), p.1, omega arith, omega arith, p.2)

pub overflow_add-far : goal.overflow_add-far
overflow_add-far c = let p = c.requires in omega (arith, p.1, c.stride-far.ensures.0, place_le c.args.xs.now c.args.q)

pub stride-near-requires : goal.stride-near-requires
stride-near-requires c = let a = c.args in
    let p = c.requires in
    let r = c.least.ensures in
    (c.stride-far.ensures.0, before_least _ _ _ _ c.stride-far.ensures.1 (omega (arith, p.0, place_le a.xs.now a.q)) r.2, omega (arith, p.0, r.1), p.1, omega arith, omega arith, p.2)

pub overflow_add-near : goal.overflow_add-near
overflow_add-near c = let p = c.requires in omega (arith, p.1, c.stride-near.ensures.0, place_le c.args.xs.now c.args.q)

pub stride-requires : goal.stride-requires
stride-requires c = let a = c.args in
    let p = c.requires in
    let r = c.least-2.ensures in
    (c.stride-near.ensures.0, before_least _ _ _ _ c.stride-near.ensures.1 (omega (arith, p.0, place_le a.xs.now a.q)) r.2, omega (arith, p.0, r.1), p.1, omega arith, omega arith, p.2)

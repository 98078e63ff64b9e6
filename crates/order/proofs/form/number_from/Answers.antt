use native.Mathlib.Omega.{arith}
use borrow.Author.Rules.{rules}
use Rattle.order.proofs.Numbers.{none, more, fits_more, small}
use Rattle.order.proofs.form.number_from.Goals as goal

pub loop-k-preserved : goal.loop-k-preserved
loop-k-preserved c =
    let l = c.loop-k in
    let b = c.byte_at.ensures in
    (omega arith, search rules, search rules, more _ _ l.k l.w _ l.invariant.3 b.0, fits_more l.k l.w _ l.invariant.4 b.1)

pub overflow_add-w : goal.overflow_add-w
overflow_add-w c =
    let l = c.loop-k in
    let s = small l.k l.w (omega arith) l.invariant.4 in
    let b = c.byte_at.ensures.1 in
    record { fits = omega (arith, s, b) }

pub overflow_mul-w : goal.overflow_mul-w
overflow_mul-w c = let l = c.loop-k in let s = small l.k l.w (omega arith) l.invariant.4 in record { fits = omega (arith, s) }

pub loop-k-init : goal.loop-k-init
loop-k-init c = (search rules, search rules, search rules, none _ _, omega arith)

use Prim.Native.Nat.{ℕ, ◌+◌, ◌*◌, ◌/◌, ◌%◌, ◌^◌, ◌≤◌, ◌<◌}
use mathlib.Core.Path.{◌≡◌}
use native.Mathlib.Omega.{arith}
use Rattle.root.proofs.Powers.{pow_next, lt_pow}
use Rattle.root.proofs.Isqrt.{found_up, found_down}
use Rattle.root.proofs.nearest_root.Goals as goal
use Rattle.root.proofs.nearest_root.Goals.{then-trial-next, else-trial-next}

-- in a turn the root has at most 52 digits yet
small : (root i : ℕ) → root < 2 ^ i → i < 53 → root < 2 ^ 52
small root i h l = lt_pow root i 52 h (omega arith)

-- a turn of the loop: one pair of digits more, before the root's next digit is chosen
turn : (s i root rest left : ℕ) → s * 4 ^ i ≡ (root * root + rest) * 2 ^ 54 + left →
    s * 4 ^ (i + 1) ≡ (4 * (root * root) + (rest * 4 + left / 2 ^ 52)) * 2 ^ 54 + left % 2 ^ 52 * 4
turn s i root rest left e = rw (pow_next 4 i) (omega arith)

double : (root i : ℕ) → root < 2 ^ i → root * 2 + 1 < 2 ^ (i + 1)
double root i h = rw (pow_next 2 i) (omega arith)

-- after the loop all digits are taken
taken : (s i root rest left : ℕ) → i ≤ 53 → 53 ≤ i → s * 4 ^ i ≡ (root * root + rest) * 2 ^ 54 + left → left < 2 ^ 54 → root * root + rest ≡ s * 2 ^ 52
taken s i root rest left a b e l =
    let q : i ≡ 53 = omega arith in
    let h : s * 4 ^ 53 ≡ (root * root + rest) * 2 ^ 54 + left = rw q at e in
    omega arith

pub overflow_mul-next : goal.overflow_mul-next
overflow_mul-next c = omega (arith, small _ _ c.loop-i.invariant.5 c.loop-i-test.true)

pub overflow_add-next : goal.overflow_add-next
overflow_add-next c = omega (arith, small _ _ c.loop-i.invariant.5 c.loop-i-test.true)

pub overflow_mul-trial : goal.overflow_mul-trial
overflow_mul-trial c = omega (arith, small _ _ c.loop-i.invariant.5 c.loop-i-test.true)

pub overflow_add-trial : goal.overflow_add-trial
overflow_add-trial c = omega (arith, small _ _ c.loop-i.invariant.5 c.loop-i-test.true)

pub loop-i-preserved : goal.loop-i-preserved
loop-i-preserved c =
    let l = c.loop-i in
    let t = turn _ l.i l.root l.rest l.left l.invariant.2 in
    let d = double l.root l.i l.invariant.5 in
    elim c.if-trial-next.branch [
      | then-trial-next w ↦ rw (w.rest-is, w.root-is) (omega arith)
      | else-trial-next w ↦ rw (w.rest-is, w.root-is) (omega arith)
    ]

pub returns-then-root-rest : goal.returns-then-root-rest
returns-then-root-rest c = let l = c.loop-i in found_up l.root l.rest _ (taken _ l.i l.root l.rest l.left l.invariant.0 c.loop-i-test.false l.invariant.2 l.invariant.3) l.invariant.4 (omega arith) c.if-root-rest.true

pub returns : goal.returns
returns c = let l = c.loop-i in found_down l.root l.rest _ (taken _ l.i l.root l.rest l.left l.invariant.0 c.loop-i-test.false l.invariant.2 l.invariant.3) l.invariant.4 (omega arith) c.if-root-rest.false

-- The order of numbers goes on: what lies below a number that lies below a third lies below the third.
use Prim.Native.Nat.{ℕ, ◌+◌, ◌*◌, ◌<◌}
use native.Mathlib.Omega.{arith}
use native.Mathlib.Nat.{mul-pos, mul_right_comm, mul-lt-mul_of_pos_right, lt_of_mul-lt-mul_right, zero-mul, eq-zero-or-pos}
use mathlib.Core.Bool.{Bool, true, false}
use mathlib.Core.Logic.{⊎_elim}
use mathlib.Core.Path.{◌≡◌, refl, subst}
use lib.Ieee.{Float, nan, inf, fin, lt, below, up, down}
use lib.Ieee.Fits.{down_pos}
use borrow.Author.Tests.{ltb-true, lt-ltb}
use Rattle.numbers.proofs.Ways.{never}

-- a / c, b / d and e / f: fractions compared by their products across
across : (a c b d e f : ℕ) → 0 < c → 0 < d → 0 < f → a * d < b * c → b * f < e * d → a * f < e * c
across a c b d e f C D F p q =
    let left : a * f * d < b * f * c = subst (λ (m : ℕ). m < b * f * c) (mul_right_comm a d f) (subst (λ (m : ℕ). a * d * f < m) (mul_right_comm b c f) (mul-lt-mul_of_pos_right p F)) in
    let right : b * f * c < e * c * d = subst (λ (m : ℕ). b * f * c < m) (mul_right_comm e d c) (mul-lt-mul_of_pos_right q C) in
    lt_of_mul-lt-mul_right d (omega (arith, left, right))

-- a number that makes a product of something is something
some : (a b n : ℕ) → n < a * b → 0 < a
some a b n h = ⊎_elim (λ (z : a ≡ 0). absurd (omega (arith, subst (λ (k : ℕ). n < k * b) z h, zero-mul b))) (λ (p : 0 < a). p) (eq-zero-or-pos a)

below_on : (r s t : Bool) (a c b d e f : ℕ) → 0 < c → 0 < d → 0 < f → below r (a * d) s (b * c) ≡ true → below s (b * f) t (e * d) ≡ true → below r (a * f) t (e * c) ≡ true
below_on false false false a c b d e f C D F p q = lt-ltb (a * f) (e * c) (across a c b d e f C D F (ltb-true (a * d) (b * c) p) (ltb-true (b * f) (e * d) q))
below_on false false true a c b d e f C D F p q = q
below_on false true t a c b d e f C D F p q = never p refl
below_on true false false a c b d e f C D F p q =
    let pos : 0 < e * c = mul-pos (some e d (b * f) (ltb-true (b * f) (e * d) q)) C in
    lt-ltb 0 (a * f + e * c) (omega (arith, pos))
below_on true false true a c b d e f C D F p q = never q refl
below_on true true false a c b d e f C D F p q =
    let pos : 0 < a * f = mul-pos (some a d (b * c) (ltb-true (b * c) (a * d) p)) F in
    lt-ltb 0 (a * f + e * c) (omega (arith, pos))
below_on true true true a c b d e f C D F p q = lt-ltb (e * c) (a * f) (across e f b d a c F D C (ltb-true (e * d) (b * f) q) (ltb-true (b * c) (a * d) p))

pub lt_on : (x y z : Float) → lt x y ≡ true → lt y z ≡ true → lt x z ≡ true
unfolding lt
lt_on nan y z p q = p
lt_on (inf true) nan z p q = never p refl
lt_on (inf true) (inf true) z p q = never p refl
lt_on (inf true) (inf false) nan p q = q
lt_on (inf true) (inf false) (inf t) p q = never q refl
lt_on (inf true) (inf false) (fin t m e) p q = never q refl
lt_on (inf true) (fin s m e) nan p q = q
lt_on (inf true) (fin s m e) (inf t) p q = q
lt_on (inf true) (fin s m e) (fin t n d) p q = refl
lt_on (inf false) nan z p q = never p refl
lt_on (inf false) (inf s) z p q = never p refl
lt_on (inf false) (fin s m e) z p q = never p refl
lt_on (fin s m e) nan z p q = never p refl
lt_on (fin s m e) (inf true) z p q = never p refl
lt_on (fin s m e) (inf false) nan p q = q
lt_on (fin s m e) (inf false) (inf t) p q = never q refl
lt_on (fin s m e) (inf false) (fin t n d) p q = never q refl
lt_on (fin s m e) (fin t n d) nan p q = q
lt_on (fin s m e) (fin t n d) (inf u) p q = q
lt_on (fin s m e) (fin t n d) (fin u k g) p q = below_on s t u (m * up e) (down e) (n * up d) (down d) (k * up g) (down g) (down_pos e) (down_pos d) (down_pos g) p q

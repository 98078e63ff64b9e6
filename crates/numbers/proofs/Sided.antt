-- A number of either sign that is at most so far from 0.
use Prim.Native.Nat.{ℕ}
use mathlib.Core.Bool.{true, false}
use mathlib.Core.Path.{◌≡◌, refl}
use lib.Ieee.{Float, nan, inf, fin, neg, le}
use Rattle.numbers.proofs.Ways.{never}
use Rattle.numbers.proofs.AtMost.{le_neg}
use Rattle.numbers.proofs.Bounds.{Within, neg_within}
use Rattle.numbers.proofs.Ratios.{neg_neg, between_within, plus_from_zero}

pub sided_within : {k : ℕ} (x : Float) {h : Float} → Within k h → le (neg h) x ≡ true → le x h ≡ true → Within k x
unfolding le neg
sided_within nan w l g = never g refl
sided_within (inf true) w l g = never (rw w.is at l) refl
sided_within (inf false) w l g = never (rw w.is at g) refl
sided_within (fin false m e) w l g = between_within (fin false m e) w (plus_from_zero m e) g
sided_within (fin true m e) {h} w l g = neg_within (between_within (fin false m e) w (plus_from_zero m e) (rw (neg_neg h) at (le_neg (neg h) (fin true m e) l)))

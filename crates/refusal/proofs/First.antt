-- Laws of `first`, for every check that goes through its tests in an order.
use Rattle.std.specs.Prelude.{Err, Ok, Result}
use Rattle.std.specs.Result.{IsErrAnd}
use Rattle.std.proofs.lemmas.Result.{err_from_is_err_and}
use mathlib.Core.Bool.{Bool, true, false, cond}
use mathlib.Core.List.{List, [], ◌∷◌, ◌++◌}
use mathlib.Core.Path.{◌≡◌, refl, sym, ap, ◌∙◌}
use Rattle.numbers.proofs.Ways.{never}
use Rattle.refusal.specs.Refusal.{Test, first, and_then, Verdict}
use Rattle.refusal.specs.declared.Refusal.{Refusal}

abbrev is_accepted : Verdict → Bool
is_accepted (Ok tt) = true
is_accepted (Err r) = false

-- what is accepted passed every test
abbrev pub Passed : List Test → Type 0
Passed [] = Unit {0}
Passed (t ∷ ts) = (t.holds ≡ false) × Passed ts

-- one test passed, and what comes after it accepts
pub next : (b : Bool) (r : Refusal) (v : Verdict) → cond b (Err r) v ≡ Ok tt → (b ≡ false) × (v ≡ Ok tt)
next true r v h = never (ap is_accepted h) refl
next false r v h = (refl, h)

pub passed : (ts : List Test) → first ts ≡ Ok tt → Passed ts
passed [] h = tt
passed (t ∷ ts) h = let p = next t.holds t.refusal (first ts) h in (p.0, passed ts p.1)

-- and what passes every test is accepted
pub accepted : (ts : List Test) → Passed ts → first ts ≡ Ok tt
accepted [] h = refl
accepted (t ∷ ts) h = rw h.0 (accepted ts h.1)

-- both accept, or the two together do not
pub both_accept : (v w : Verdict) → and_then v w ≡ Ok tt → (v ≡ Ok tt) × (w ≡ Ok tt)
both_accept (Ok tt) w h = (refl, h)
both_accept (Err r) w h = never (ap is_accepted h) refl

cond_then : (b : Bool) (r : Refusal) (v w : Verdict) → cond b (Err r) (and_then v w) ≡ and_then (cond b (Err r) v) w
cond_then true r v w = refl
cond_then false r v w = refl

pub first_append : (ts us : List Test) → first (ts ++ us) ≡ and_then (first ts) (first us)
first_append [] us = refl
first_append (t ∷ ts) us = rw (first_append ts us) (cond_then t.holds t.refusal (first ts) (first us))

-- the second speaks only where the first accepts
pub stops : (v : Verdict) (r : Refusal) (ts us : List Test) → v ≡ first ts → v ≡ Err r → v ≡ first (ts ++ us)
stops v r ts us e f = f ∙ ap (λ (w : Verdict). and_then w (first us)) (sym f ∙ e) ∙ sym (first_append ts us)

pub goes_on : (v w : Verdict) (ts us : List Test) → v ≡ first ts → v ≡ Ok tt → w ≡ first us → w ≡ first (ts ++ us)
goes_on v w ts us e f g = g ∙ ap (λ (u : Verdict). and_then u (first us)) (sym f ∙ e) ∙ sym (first_append ts us)

-- a refusal that `?` hands on
pub handed : {A : Type 0} {e : Refusal} (r : Result A Refusal) → IsErrAnd r (λ y. y ≡ e) → r ≡ Err e
handed r h = let p = err_from_is_err_and r h in p.1 ∙ ap Err p.2

-- which is the first of all tests, where it is the first of some
pub stops_here : {e : Refusal} (r : Verdict) (ts us : List Test) → Err e ≡ first ts → IsErrAnd r (λ y. y ≡ e) → r ≡ first (ts ++ us)
stops_here r ts us f h = handed r h ∙ stops _ _ ts us f refl

-- Which way a test went: a test has one outcome, a definition that goes by a test follows it, and of two numbers one is below or at most the other.
use Prim.Native.Nat.{ℕ, ◌≤◌, ◌<◌}
use mathlib.Core.Bool.{Bool, true, false, not, cond, ◌||◌}
use mathlib.Core.Logic.{◌⊎◌, inl, inr}
use mathlib.Core.Path.{◌≡◌, refl, sym, ap, subst, ◌∙◌}
use lib.Dec.{T, ltb}
use borrow.Author.Tests.{ltb-true, ltb-false}

pub never : {A : Type 0} {b : Bool} → b ≡ true → b ≡ false → A
never p q = absurd (subst T (sym p ∙ q) tt)

pub lt_or_le : (a b : ℕ) → (a < b) ⊎ (b ≤ a)
lt_or_le a b = by (ltb a b) (ltb-true a b) (ltb-false a b)
  where
    by : (t : Bool) → (t ≡ true → a < b) → (t ≡ false → b ≤ a) → (a < b) ⊎ (b ≤ a)
    by true l g = inl (l refl)
    by false l g = inr (g refl)

-- a call's answer, and what a test made of it, as it stands or turned round
pub returned : {a b t : Bool} → a ≡ b → a ≡ t → b ≡ t
returned e h = sym e ∙ h

pub asked_not : {a b t : Bool} → a ≡ b → not a ≡ t → not b ≡ t
asked_not e h = sym (ap not e) ∙ h

pub not_not : (b : Bool) → not b ≡ false → b ≡ true
not_not true h = refl
not_not false h = never refl h

pub or_some : (a b : Bool) → a || b ≡ true → (a ≡ true) ⊎ (b ≡ true)
or_some true b h = inl refl
or_some false b h = inr h

pub or_none : (a b : Bool) → a || b ≡ false → (a ≡ false) × (b ≡ false)
or_none true b h = (h, never refl h)
or_none false b h = (refl, h)

-- what holds of both outcomes of a test holds of the one that it picks
pub of_both : {A : Type 0} (P : A → Type 0) (b : Bool) (x y : A) → P x → P y → P (cond b x y)
of_both P true x y p q = p
of_both P false x y p q = q

-- a definition that goes by a test, where the test is known
pub taken : {A : Type 0} (b : Bool) (r x y : A) → b ≡ true → r ≡ x → r ≡ cond b x y
taken b r x y h e = rw h e

pub left : {A : Type 0} (b : Bool) (r x y : A) → b ≡ false → r ≡ y → r ≡ cond b x y
left b r x y h e = rw h e

pub ruleset ways = (taken, left)

-- each outcome with what the test says of it
pub of_each : {A : Type 0} (P : A → Type 0) (b : Bool) (x y : A) → (b ≡ true → P x) → (b ≡ false → P y) → P (cond b x y)
of_each P true x y p q = p refl
of_each P false x y p q = q refl

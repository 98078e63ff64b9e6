-- What is said of a contract: any two outcomes that it allows are the same, and what follows from it.
use Rattle.std.specs.Prelude.{◌≡◌}

-- `Post` is what a contract says of its lifetimes, the arguments, an answer, and what was lent as it is at the end; `seen` is what the caller sees of the last
-- two: all that the contract must fix.
abbrev pub OneOutcome : {K : Type 0} {A R S O : K → Type 0} → ((κ : K) → A κ → R κ → S κ → Type 0) → ((κ : K) → R κ → S κ → O κ) → Type 0
OneOutcome {K} {A} {R} {S} {O} Post seen = (κ : K) (a : A κ) (r₁ r₂ : R κ) (s t : S κ) → Post κ a r₁ s → Post κ a r₂ t → seen κ r₁ s ≡ seen κ r₂ t

-- nothing is lent to be changed: the answer is all
abbrev pub OneAnswer : {K : Type 0} {A R S : K → Type 0} → ((κ : K) → A κ → R κ → S κ → Type 0) → Type 0
OneAnswer Post = OneOutcome Post (λ κ r s. r)

-- a law of every call that a contract allows
abbrev pub Follows : {K : Type 0} {A R S : K → Type 0} → ((κ : K) → A κ → R κ → S κ → Type 0) → ((κ : K) → A κ → R κ → S κ → Type 0) → Type 0
Follows {K} {A} {R} {S} Post law = (κ : K) (a : A κ) (r : R κ) (s : S κ) → Post κ a r s → law κ a r s

-- an answer beside what one lent slice holds
abbrev pub pair : {A B : Type 0} → A → B → A × B
pair a b = (a, b)

-- Which kind bits name: none of a list, where they are the bits of none of its kinds.
use Prim.Native.Nat.{ℕ}
use mathlib.Core.List.{List, [], ◌∷◌}
use mathlib.Core.Path.{◌≡◌, refl}
use borrow.Author.Tests.{ne_eqb}
use Rattle.std.specs.Prelude.{None}
use Rattle.record.specs.Tag.{kind_with}

module _ {K : Type 0} (bits : K → ℕ) (n : ℕ) where
  -- P, and n is the bits of no kind of the list
  abbrev pub Misses : Type 0 → List K → Type 0
  Misses P [] = P
  Misses P (k ∷ ks) = Misses (P × (n ≡ bits k → ⊥)) ks

  before : (P : Type 0) (ks : List K) → Misses P ks → P
  before P [] m = m
  before P (k ∷ ks) m = (before (P × (n ≡ bits k → ⊥)) ks m).0

  pub none_with : (P : Type 0) (ks : List K) → Misses P ks → kind_with bits ks n ≡ None
  none_with P [] m = refl
  none_with P (k ∷ ks) m = rw (ne_eqb n (bits k) (before (P × (n ≡ bits k → ⊥)) ks m).1) (none_with (P × (n ≡ bits k → ⊥)) ks m)

-- What a lent buffer holds afterwards.
use Rattle.std.specs.Prelude.{ℕ, zero, suc, ◌+◌, List, set}

-- `overlay p n f xs`: the list xs with f 0, f 1, .., f (n - 1) written from place p on. `proofs/Overlay.antt` has its laws.
unfoldable pub overlay : {A : Type 0} → ℕ → ℕ → (ℕ → A) → List A → List A
overlay p zero f xs = xs
overlay p (suc n) f xs = set (overlay p n f xs) (p + n) (f n)

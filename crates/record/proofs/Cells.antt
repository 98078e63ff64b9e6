-- A list of known length, written out by its entries.
use Prim.Native.Nat.{ℕ, zero, suc, ◌+◌}
use native.Mathlib.Omega.{arith}
use mathlib.Core.List.{List, [], ◌∷◌}
use mathlib.Core.Path.{◌≡◌, ap, ◌∙◌}
use lib.ListN.{length, get_or, drop, drop_of_length-le}
use lib.Seq.{drop-cons}

-- the n entries from place i on
abbrev pub cells : {A : Type 0} → A → ℕ → ℕ → List A → List A
cells d i zero xs = []
cells d i (suc n) xs = get_or xs i d ∷ cells d (suc i) n xs

pub drop_cells : {A : Type 0} (d : A) (i n : ℕ) (xs : List A) → i + n ≡ length xs → drop i xs ≡ cells d i n xs
drop_cells d i zero xs h = drop_of_length-le xs {i = i} (omega arith)
drop_cells d i (suc n) xs h = drop-cons xs i d (omega arith) ∙ ap (λ l. get_or xs i d ∷ l) (drop_cells d (suc i) n xs (omega arith))

pub all_cells : {A : Type 0} (d : A) (n : ℕ) (xs : List A) → length xs ≡ n → xs ≡ cells d 0 n xs
all_cells d n xs h = drop_cells d 0 n xs (omega arith)

-- A function's numbers as a list: how many there are, what stands at each place, and that filling a slice from its start leaves just them in it.
use Prim.Native.Nat.{ℕ, zero, suc, ◌+◌, ◌≤◌, ◌<◌}
use native.Mathlib.Nat.{add-zero, zero-add, add-suc, suc-add, le_of_suc-le-suc, not-suc-le-zero}
use mathlib.Core.List.{List}
use mathlib.Core.Path.{◌≡◌, refl, sym, ap, subst, ◌∙◌}
use lib.ListN.{length, get_or, take}
use lib.Seq.{ext_get_or, length-take-le, get_or-take}
use Rattle.numbers.specs.Overlay.{overlay}
use Rattle.numbers.proofs.Overlay.{length_overlay, overlay_inside}
use Rattle.months.specs.Calendar.{listed}

module _ {A : Type 0} where
  pub length_listed : (f : ℕ → A) (i n : ℕ) → length (listed f i n) ≡ n
  unfolding listed
  length_listed f i zero = refl
  length_listed f i (suc n) = ap suc (length_listed f (suc i) n)

  pub get_or_listed : (f : ℕ → A) (i n k : ℕ) (d : A) → k < n → get_or (listed f i n) k d ≡ f (i + k)
  unfolding listed
  get_or_listed f i zero k d h = absurd (not-suc-le-zero h)
  get_or_listed f i (suc n) zero d h = ap f (sym (add-zero i))
  get_or_listed f i (suc n) (suc k) d h = get_or_listed f (suc i) n k d (le_of_suc-le-suc h) ∙ ap f (suc-add i k ∙ sym (add-suc i k))

  -- what stands at a place of a list that starts at 0
  pub listed_at : (f : ℕ → A) (n k : ℕ) (d : A) → k < n → get_or (listed f 0 n) k d ≡ f k
  listed_at f n k d h = get_or_listed f 0 n k d h ∙ ap f (zero-add k)

  pub take_filled : (f : ℕ → A) (n : ℕ) (xs : List A) (d : A) → n ≤ length xs → take n (overlay 0 n f xs) ≡ listed f 0 n
  take_filled f n xs d h =
      let room : n ≤ length (overlay 0 n f xs) = rw (length_overlay 0 n f xs) h in
      let long = length-take-le n (overlay 0 n f xs) room in
      ext_get_or d (take n (overlay 0 n f xs)) (listed f 0 n) (long ∙ sym (length_listed f 0 n))
      (λ i k.
      let below : i < n = subst (λ (m : ℕ). i < m) long k in
      get_or-take n (overlay 0 n f xs) i d below
      ∙ ap (λ (j : ℕ). get_or (overlay 0 n f xs) j d) (sym (zero-add i))
      ∙ overlay_inside 0 n f xs i d below (rw (zero-add n) h)
      ∙ sym (listed_at f n i d below))

-- The laws of `overlay`. Every layer that fills a lent buffer cites these.
use Prim.Native.Nat.{ℕ, zero, suc, ◌+◌, ◌≤◌, ◌<◌}
use native.Mathlib.Omega.{arith}
use native.Mathlib.Nat.{add-suc, add-zero, add_assoc, eq-or-lt_of_le, le_of_suc-le-suc, le-add_right}
use native.Mathlib.Numerals.{add-one}
use mathlib.Core.List.{List}
use mathlib.Core.Logic.{◌⊎◌, inl, inr, ⊎_elim}
use mathlib.Core.Path.{◌≡◌, refl, sym, ap, ◌∙◌}
use lib.ListN.{set, length, get_or, drop, take, length-set}
use lib.Seq.{get_or-set_same, get_or-set_other, set_comm, set-set, take-set-le, drop-set-add}
use Rattle.numbers.specs.Overlay.{overlay}

module _ {A : Type 0} where
  pub overlay_none : (p : ℕ) (f : ℕ → A) (xs : List A) → xs ≡ overlay p 0 f xs
  unfolding overlay
  overlay_none p f xs = refl

  -- one more entry: what a turn of a loop that writes in order shows
  pub overlay_more : (p n : ℕ) (f : ℕ → A) (xs ys : List A) (i : ℕ) (a : A) →
      ys ≡ overlay p n f xs → i ≡ p + n → a ≡ f n → set ys i a ≡ overlay p (n + 1) f xs
  unfolding overlay
  overlay_more p n f xs ys i a ey ei ea = rw (ey, ei, ea, add-one)

  pub length_overlay : (p n : ℕ) (f : ℕ → A) (xs : List A) → length (overlay p n f xs) ≡ length xs
  unfolding overlay
  length_overlay p zero f xs = refl
  length_overlay p (suc n) f xs = length-set (overlay p n f xs) (p + n) (f n) ∙ length_overlay p n f xs

  -- what stands inside the stretch
  pub overlay_inside : (p n : ℕ) (f : ℕ → A) (xs : List A) (i : ℕ) (d : A) → i < n → p + n ≤ length xs → get_or (overlay p n f xs) (p + i) d ≡ f i
  unfolding overlay
  overlay_inside p zero f xs i d h k = absurd (omega arith)
  overlay_inside p (suc n) f xs i d h k =
      ⊎_elim
      (λ (e : i ≡ n). rw e (get_or-set_same (overlay p n f xs) (p + n) (f n) d (rw length_overlay (omega arith))))
      (λ (l : i < n). get_or-set_other (overlay p n f xs) (p + n) (p + i) (f n) d (λ e. omega arith) ∙ overlay_inside p n f xs i d l (omega arith))
      (eq-or-lt_of_le (le_of_suc-le-suc h))

  -- what stands outside it
  pub overlay_outside : (p n : ℕ) (f : ℕ → A) (xs : List A) (j : ℕ) (d : A) → (j < p) ⊎ (p + n ≤ j) → get_or (overlay p n f xs) j d ≡ get_or xs j d
  unfolding overlay
  overlay_outside p zero f xs j d h = refl
  overlay_outside p (suc n) f xs j d (inl h) = get_or-set_other (overlay p n f xs) (p + n) j (f n) d (λ e. omega arith) ∙ overlay_outside p n f xs j d (inl h)
  overlay_outside p (suc n) f xs j d (inr h) = get_or-set_other (overlay p n f xs) (p + n) j (f n) d (λ e. omega arith) ∙ overlay_outside p n f xs j d (inr (omega arith))

  -- only the entries that are written count
  pub overlay_same : (p n : ℕ) (f g : ℕ → A) (xs : List A) → ((i : ℕ) → i < n → f i ≡ g i) → overlay p n f xs ≡ overlay p n g xs
  unfolding overlay
  overlay_same p zero f g xs h = refl
  overlay_same p (suc n) f g xs h = rw (overlay_same p n f g xs (λ i l. h i (omega arith)), h n (omega arith))

  -- two that touch are one
  pub overlay_join : (p n m : ℕ) (f : ℕ → A) (xs : List A) → overlay (p + n) m (λ i. f (n + i)) (overlay p n f xs) ≡ overlay p (n + m) f xs
  unfolding overlay
  overlay_join p n zero f xs = rw add-zero
  overlay_join p n (suc m) f xs = rw (overlay_join p n m f xs, add-suc n m, add_assoc p n m)

  -- a store before or after the stretch may come first
  set_overlay : (p n : ℕ) (f : ℕ → A) (xs : List A) (j : ℕ) (a : A) → (j < p) ⊎ (p + n ≤ j) → set (overlay p n f xs) j a ≡ overlay p n f (set xs j a)
  unfolding overlay
  set_overlay p zero f xs j a h = refl
  set_overlay p (suc n) f xs j a (inl h) =
      set_comm (overlay p n f xs) (p + n) j (f n) a (λ e. omega arith) ∙ ap (λ (l : List A). set l (p + n) (f n)) (set_overlay p n f xs j a (inl h))
  set_overlay p (suc n) f xs j a (inr h) =
      set_comm (overlay p n f xs) (p + n) j (f n) a (λ e. omega arith) ∙ ap (λ (l : List A). set l (p + n) (f n)) (set_overlay p n f xs j a (inr (omega arith)))

  -- overlays of stretches that do not meet commute
  pub overlay_comm : (p n : ℕ) (f : ℕ → A) (q m : ℕ) (g : ℕ → A) (xs : List A) → p + n ≤ q →
      overlay q m g (overlay p n f xs) ≡ overlay p n f (overlay q m g xs)
  unfolding overlay
  overlay_comm p n f q zero g xs h = refl
  overlay_comm p n f q (suc m) g xs h = rw (overlay_comm p n f q m g xs h) (set_overlay p n f (overlay q m g xs) (q + m) (g m) (inr (omega arith)))

  -- the later of two overlays of one stretch is all that is seen
  pub overlay_again : (p n : ℕ) (f g : ℕ → A) (xs : List A) → overlay p n g (overlay p n f xs) ≡ overlay p n g xs
  unfolding overlay
  overlay_again p zero f g xs = refl
  overlay_again p (suc n) f g xs =
      ap (λ (l : List A). set l (p + n) (g n)) (sym (set_overlay p n g (overlay p n f xs) (p + n) (f n) (inr (omega arith))) ∙ ap (λ (l : List A). set l (p + n) (f n)) (overlay_again p n f g xs))
      ∙ set-set (overlay p n g xs) (p + n) (f n) (g n)

  -- a part that starts at place a, overlaid by itself: the whole, overlaid from a on
  pub drop_overlay : (a p n : ℕ) (f : ℕ → A) (xs : List A) → drop a (overlay (a + p) n f xs) ≡ overlay p n f (drop a xs)
  unfolding overlay
  drop_overlay a p zero f xs = refl
  drop_overlay a p (suc n) f xs = rw (add_assoc a p n, drop-set-add a (overlay (a + p) n f xs) (p + n) (f n), drop_overlay a p n f xs)

  -- and what lies before it is as it was
  pub take_overlay : (a n : ℕ) (f : ℕ → A) (xs : List A) → take a (overlay a n f xs) ≡ take a xs
  unfolding overlay
  take_overlay a zero f xs = refl
  take_overlay a (suc n) f xs = take-set-le a (overlay a n f xs) (a + n) (f n) (le-add_right a n) ∙ take_overlay a n f xs

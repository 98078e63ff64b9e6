-- Stretches of a buffer, each filled from one rule by place: in whatever order and however often, what stands at a place is the rule's number if a stretch has
-- it, and else what stood there.
use Prim.Native.Nat.{ℕ, ◌+◌, ◌-◌, ◌≤◌, ◌<◌}
use native.Mathlib.Omega.{arith}
use native.Mathlib.Nat.{zero-add}
use mathlib.Core.List.{List, [], ◌∷◌}
use mathlib.Core.Logic.{◌⊎◌, inl, inr, ⊎_elim}
use mathlib.Core.Path.{◌≡◌, refl, sym, ap, ◌∙◌}
use lib.ListN.{length, get_or}
use lib.Seq.{ext_get_or}
use Rattle.numbers.specs.Overlay.{overlay}
use Rattle.numbers.proofs.Overlay.{length_overlay, overlay_inside, overlay_outside}
use Rattle.numbers.proofs.Ways.{lt_or_le}
use Rattle.sheets.specs.SameCurve.{One}

-- `count` entries from `start` on
pub record Stretch : Type 0 where
  pub start : ℕ
  pub count : ℕ

abbrev pub Has : Stretch → ℕ → Type 0
Has s i = (s.start ≤ i) × (i < s.start + s.count)

module _ {A : Type 0} (g : ℕ → A) where
  abbrev pub stroke : Stretch → List A → List A
  stroke s xs = overlay s.start s.count (λ k. g (s.start + k)) xs

  unfoldable pub strokes : List Stretch → List A → List A
  strokes [] xs = xs
  strokes (s ∷ ss) xs = strokes ss (stroke s xs)

  pub stroke_length : (s : Stretch) (xs : List A) → length (stroke s xs) ≡ length xs
  stroke_length s xs = length_overlay s.start s.count (λ k. g (s.start + k)) xs

  pub strokes_length : (ss : List Stretch) (xs : List A) → length (strokes ss xs) ≡ length xs
  unfolding strokes
  strokes_length [] xs = refl
  strokes_length (s ∷ ss) xs = strokes_length ss (stroke s xs) ∙ stroke_length s xs

  module _ (d : A) where
    pub stroke_in : (s : Stretch) (xs : List A) (i : ℕ) → s.start + s.count ≤ length xs → Has s i → get_or (stroke s xs) i d ≡ g i
    stroke_in s xs i h e =
        let lo = e.0 in
        let hi = e.1 in
        let j : s.start + (i - s.start) ≡ i = omega arith in
        ap (λ (k : ℕ). get_or (stroke s xs) k d) (sym j)
        ∙ overlay_inside s.start s.count (λ k. g (s.start + k)) xs (i - s.start) d (omega arith) h
        ∙ ap g j

    pub stroke_out : (s : Stretch) (xs : List A) (i : ℕ) → (Has s i → ⊥) → get_or (stroke s xs) i d ≡ get_or xs i d
    stroke_out s xs i h =
        overlay_outside s.start s.count (λ k. g (s.start + k)) xs i d
        (⊎_elim
        (λ (l : i < s.start). inl l)
        (λ (l : s.start ≤ i). ⊎_elim (λ (u : i < s.start + s.count). absurd (h (l, u))) (λ (u : s.start + s.count ≤ i). inr u) (lt_or_le i (s.start + s.count)))
        (lt_or_le i s.start))

    has : (s : Stretch) (i : ℕ) → Has s i ⊎ (Has s i → ⊥)
    has s i =
        ⊎_elim
        (λ (l : i < s.start). inr (λ (e : Has s i). (let lo = e.0 in omega arith)))
        (λ (l : s.start ≤ i).
        ⊎_elim (λ (u : i < s.start + s.count). inl (l, u)) (λ (u : s.start + s.count ≤ i). inr (λ (e : Has s i). (let hi = e.1 in omega arith))) (lt_or_le i (s.start + s.count)))
        (lt_or_le i s.start)

    -- what is right stays right
    stays : (ss : List Stretch) (xs : List A) (i : ℕ) → ((s : Stretch) → One s ss → s.start + s.count ≤ length xs) → get_or xs i d ≡ g i → get_or (strokes ss xs) i d ≡ g i
    unfolding strokes
    stays [] xs i h e = e
    stays (s ∷ ss) xs i h e =
        stays ss (stroke s xs) i (λ t o. rw (stroke_length s xs) (h t (inr o)))
        (⊎_elim (λ (k : Has s i). stroke_in s xs i (h s (inl refl)) k) (λ (k : Has s i → ⊥). stroke_out s xs i k ∙ e) (has s i))

    pub strokes_in : (ss : List Stretch) (xs : List A) (i : ℕ) → ((s : Stretch) → One s ss → s.start + s.count ≤ length xs) →
        (s : Stretch) → One s ss → Has s i → get_or (strokes ss xs) i d ≡ g i
    unfolding strokes
    strokes_in [] xs i h s o k = absurd o
    strokes_in (t ∷ ss) xs i h s (inl e) k =
        stays ss (stroke t xs) i (λ u o. rw (stroke_length t xs) (h u (inr o))) (stroke_in t xs i (h t (inl refl)) (rw e at k))
    strokes_in (t ∷ ss) xs i h s (inr o) k = strokes_in ss (stroke t xs) i (λ u q. rw (stroke_length t xs) (h u (inr q))) s o k

    pub strokes_out : (ss : List Stretch) (xs : List A) (i : ℕ) → ((s : Stretch) → One s ss → Has s i → ⊥) → get_or (strokes ss xs) i d ≡ get_or xs i d
    unfolding strokes
    strokes_out [] xs i h = refl
    strokes_out (s ∷ ss) xs i h = strokes_out ss (stroke s xs) i (λ t o. h t (inr o)) ∙ stroke_out s xs i (h s (inl refl))

    pub from_start : (xs : List A) (n i : ℕ) → i < n → n ≤ length xs → get_or (overlay 0 n g xs) i d ≡ g i
    from_start xs n i k l = ap (λ (j : ℕ). get_or (overlay 0 n g xs) j d) (sym (zero-add i)) ∙ overlay_inside 0 n g xs i d k (rw (zero-add n) l)

    past_start : (xs : List A) (n i : ℕ) → n ≤ i → get_or (overlay 0 n g xs) i d ≡ get_or xs i d
    past_start xs n i k = overlay_outside 0 n g xs i d (inr (rw (zero-add n) k))

    -- stretches that have every place below n, and none from n on: the buffer filled up to n
    pub strokes_all : (ss : List Stretch) (xs : List A) (n : ℕ) → n ≤ length xs → ((s : Stretch) → One s ss → s.start + s.count ≤ n) →
        ((i : ℕ) → i < n → (s : Stretch) × One s ss × Has s i) → strokes ss xs ≡ overlay 0 n g xs
    strokes_all ss xs n l h c =
        ext_get_or d (strokes ss xs) (overlay 0 n g xs) (strokes_length ss xs ∙ sym (length_overlay 0 n g xs))
        (λ i b.
        ⊎_elim
        (λ (k : i < n).
        let t = c i k in
        strokes_in ss xs i (λ s o. (let w = h s o in omega arith)) t.0 t.1 t.2
        ∙ sym (from_start xs n i k l))
        (λ (k : n ≤ i). strokes_out ss xs i (λ s o e. (let w = h s o in let u = e.1 in omega arith)) ∙ sym (past_start xs n i k))
        (lt_or_le i n))

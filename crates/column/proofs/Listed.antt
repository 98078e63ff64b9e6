-- The list of a block's split sections, and the entries once the unusual ones of a list were asked.
use Prim.Native.Nat.{ℕ, ◌+◌, ◌-◌, ◌*◌, ◌≤◌, ◌<◌}
use native.Mathlib.Omega.{arith}
use mathlib.Core.Bool.{Bool, true, false}
use mathlib.Core.List.{List}
use mathlib.Core.Logic.{inl, inr, ⊎_elim}
use mathlib.Core.Path.{◌≡◌, refl, sym, ap, subst, ◌∙◌}
use borrow.Author.Count.{below_none, below_more}
use borrow.Author.Tests.{eqb-true, eqb-false}
use lib.Dec.{eqb}
use lib.Ieee.{Float, nan}
use lib.ListN.{length, set, get_or, length-set}
use lib.Seq.{get_or-set_same, get_or-set_other, ext_get_or}
use Rattle.numbers.specs.Overlay.{overlay}
use Rattle.numbers.specs.Sizes.{slot_count}
use Rattle.numbers.proofs.Overlay.{length_overlay, overlay_inside, overlay_outside}
use Rattle.numbers.proofs.Ways.{never, lt_or_le, of_each}
use Rattle.record.specs.Tag.{split_tag}
use Rattle.table.specs.Table.{at}
use Rattle.column.specs.Steps.{number_at, asks_at, asked_at, Place, Listed, Within, Asked}
use Rattle.column.proofs.Told.{usual_whole}

-- ---- the list
module _ (tags : List ℕ) (from : ℕ) where
  pub none_listed : (places : List ℕ) → Listed tags from from places 0
  none_listed places =
      record { few = omega arith; inside = below_none (λ k. (from ≤ get_or places k 0) × (get_or places k 0 < from)); all = λ i l u s. absurd (omega arith) }

  -- a turn: section i is written after the list, and counted where it is split
  module _ (places : List ℕ) (count i : ℕ) (h : Listed tags from i places count) (low : from ≤ i) (room : count < length places) where
    stays : (k : ℕ) → k < count → get_or (set places count i) k 0 ≡ get_or places k 0
    stays k l = get_or-set_other places count k i 0 (λ e. omega arith)

    written : get_or (set places count i) count 0 ≡ i
    written = get_or-set_same places count i 0 room

    inside_more : (k : ℕ) → k < count → (from ≤ get_or (set places count i) k 0) × (get_or (set places count i) k 0 < i + 1)
    inside_more k l = (omega (arith, stays k l, (h.inside k l).0), omega (arith, stays k l, (h.inside k l).1))

    place_more : (n j : ℕ) → count ≤ n → Place places count j → Place (set places count i) n j
    place_more n j l p = record { place = p.place; low = omega (arith, p.low); is = stays p.place p.low ∙ p.is }

    pub split_listed : split_tag (get_or tags i 0) ≡ true → Listed tags from (i + 1) (set places count i) (count + 1)
    split_listed s =
        record {
          few = omega (arith, h.few);
          inside = below_more (λ k. (from ≤ get_or (set places count i) k 0) × (get_or (set places count i) k 0 < i + 1)) count inside_more (omega (arith, written), omega (arith, written));
          all = λ j l u t.
              ⊎_elim
              (λ (b : j < i). place_more (count + 1) j (omega arith) (h.all j l b t))
              (λ (b : i ≤ j). record { place = count; low = omega arith; is = written ∙ omega arith })
              (lt_or_le j i);
        }

    pub whole_listed : split_tag (get_or tags i 0) ≡ false → Listed tags from (i + 1) (set places count i) count
    whole_listed s =
        record {
          few = omega (arith, h.few);
          inside = inside_more;
          all = λ j l u t.
              ⊎_elim
              (λ (b : j < i). place_more count j (omega arith) (h.all j l b t))
              (λ (b : i ≤ j). let e : j ≡ i = omega arith in never t (ap (λ (k : ℕ). split_tag (get_or tags k 0)) e ∙ s))
              (lt_or_le j i);
        }

-- what is listed is within the lists
pub listed_within : (tags : List ℕ) (from to : ℕ) (places : List ℕ) (count knots all_tags slots entries : ℕ) → Listed tags from to places count →
    to ≤ knots → to ≤ all_tags → slot_count * to ≤ slots → to ≤ entries → to ≤ 4096 → (k : ℕ) → k < count → Within knots all_tags slots entries (get_or places k 0)
listed_within tags from to places count knots all_tags slots entries h a b c d e k l =
    let u = (h.inside k l).1 in record { small = omega arith; knot = omega arith; tag = omega arith; slot = omega arith; entry = omega arith }

-- ---- the entries
module _ (x : List Float) (tags : List ℕ) (slots : List Float) where
  pub none_asked : (places : List ℕ) (old : List Float) → Asked x tags slots places 0 old old
  none_asked places old =
      record { size = refl; asked = λ k l h. absurd (omega arith); unasked = λ j h. refl; unlisted = λ j h. refl }

  -- a turn: the next of the list is asked, or stays
  module _ (places : List ℕ) (k i : ℕ) (old new : List Float) (h : Asked x tags slots places k old new) (here : get_or places k 0 ≡ i) where
    pub number_asked : (a : Float) → i < length new → asks_at x tags slots i ≡ true → a ≡ number_at x tags slots i → Asked x tags slots places (k + 1) old (set new i a)
    number_asked a room t e =
        record {
          size = length-set new i a ∙ h.size;
          asked = below_more (λ n. asks_at x tags slots (get_or places n 0) ≡ true → at (set new i a) (get_or places n 0) ≡ number_at x tags slots (get_or places n 0)) k
              (λ n l s. again (get_or places n 0) (h.asked n l s)) (λ s. same (get_or places k 0) here);
          unasked = λ j s. get_or-set_other new i j a nan (λ p. never t (ap (asks_at x tags slots) (sym p) ∙ s)) ∙ h.unasked j s;
          unlisted = λ j s.
              get_or-set_other new i j a nan (λ p. s k (omega arith) (here ∙ sym p)) ∙ h.unlisted j (λ n l. s n (omega arith));
        }
      where
        same : (j : ℕ) → j ≡ i → at (set new i a) j ≡ number_at x tags slots j
        same j p =
            ap (at (set new i a)) p ∙ get_or-set_same new i a nan room ∙ e ∙ ap (number_at x tags slots) (sym p)

        again : (j : ℕ) → at new j ≡ number_at x tags slots j → at (set new i a) j ≡ number_at x tags slots j
        again j s = by (eqb j i) (eqb-true j i) (eqb-false j i)
          where
            by : (b : Bool) → (b ≡ true → j ≡ i) → (b ≡ false → j ≡ i → ⊥) → at (set new i a) j ≡ number_at x tags slots j
            by true p q = same j (p refl)
            by false p q = get_or-set_other new i j a nan (q refl) ∙ s

    pub entry_kept : asks_at x tags slots i ≡ false → Asked x tags slots places (k + 1) old new
    entry_kept t =
        record {
          size = h.size;
          asked = below_more (λ n. asks_at x tags slots (get_or places n 0) ≡ true → at new (get_or places n 0) ≡ number_at x tags slots (get_or places n 0)) k
              h.asked (λ s. never s (ap (asks_at x tags slots) here ∙ t));
          unasked = h.unasked;
          unlisted = λ j s. h.unlisted j (λ n l. s n (omega arith));
        }

  -- ---- a block
  module _ (from to : ℕ) (places : List ℕ) (count : ℕ) (old new : List Float) (l : Listed tags from to places count) (h : Asked x tags slots places count old new) where
    -- one of its sections that is asked is split, and so is listed
    asked_here : (j : ℕ) → from ≤ j → j < to → asks_at x tags slots j ≡ true → at new j ≡ number_at x tags slots j
    asked_here j a b t = by (split_tag (get_or tags j 0)) refl
      where
        by : (s : Bool) → split_tag (get_or tags j 0) ≡ s → at new j ≡ number_at x tags slots j
        by true s =
            let p = l.all j a b s in
            subst (λ (n : ℕ). at new n ≡ number_at x tags slots n) p.is (h.asked p.place p.low (ap (asks_at x tags slots) p.is ∙ t))
        by false s = never t (usual_whole (get_or tags j 0) _ (at x j) s)

    entry_here : (j : ℕ) → from ≤ j → j < to → at new j ≡ asked_at x tags slots old j
    entry_here j a b =
        of_each (λ (q : Float). at new j ≡ q) (asks_at x tags slots j) (number_at x tags slots j) (at old j) (asked_here j a b) (h.unasked j)

    pub block_filled : from ≤ to → to ≤ length old → new ≡ overlay from (to - from) (λ k. asked_at x tags slots old (from + k)) old
    block_filled order room =
        ext_get_or nan new (overlay from (to - from) f old) (h.size ∙ sym (length_overlay from (to - from) f old))
        (λ j b.
        ⊎_elim
        (λ (u : j < from). h.unlisted j (λ k c e. omega (arith, (l.inside k c).0)) ∙ sym (overlay_outside from (to - from) f old j nan (inl u)))
        (λ (u : from ≤ j).
        ⊎_elim
        (λ (v : j < to). inner j u v)
        (λ (v : to ≤ j). h.unlisted j (λ k c e. omega (arith, (l.inside k c).1)) ∙ sym (overlay_outside from (to - from) f old j nan (inr (omega arith))))
        (lt_or_le j to))
        (lt_or_le j from))
      where
        f : ℕ → Float
        f k = asked_at x tags slots old (from + k)

        inner : (j : ℕ) → from ≤ j → j < to → at new j ≡ at (overlay from (to - from) f old) j
        inner j u v =
            let e : from + (j - from) ≡ j = omega arith in
            entry_here j u v
            ∙ sym (ap (asked_at x tags slots old) e)
            ∙ sym (overlay_inside from (to - from) f old (j - from) nan (omega arith) (omega arith))
            ∙ ap (at (overlay from (to - from) f old)) e

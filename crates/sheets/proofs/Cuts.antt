-- The sheets of a table that is cut at inner knots: each is a stretch with a node given for one end at least, every period is in one of them, and those that are
-- handed the whole's numbers are fair.
use Rattle.std.specs.Prelude.{None, Some}
use Prim.Native.Nat.{ℕ, zero, suc, ◌+◌, ◌-◌, ◌≤◌, ◌<◌}
use native.Mathlib.Omega.{arith}
use native.Mathlib.Nat.{le_refl}
use mathlib.Core.Bool.{true, false}
use mathlib.Core.List.{List, [], ◌∷◌, map}
use mathlib.Core.Logic.{◌⊎◌, inl, inr, ⊎_elim}
use mathlib.Core.Path.{◌≡◌, refl, ap, ◌∙◌}
use borrow.Author.Tests.{ltb-true, eq-eqb, ne_eqb}
use lib.Dec.{ltb}
use lib.Ieee.{Float}
use lib.ListN.{length, get_or}
use Rattle.numbers.proofs.Every.{all_at, and_split}
use Rattle.numbers.proofs.Ways.{lt_or_le}
use Rattle.table.specs.Table.{node_at, End}
use Rattle.table.specs.declared.method.ConvexMonotone.{ConvexMonotone}
use Rattle.sheets.specs.Cuts.{start_of, finish_of, cut_fits, cuts_fit}
use Rattle.sheets.specs.Pieces.{Piece, whole}
use Rattle.sheets.specs.SameCurve.{CutTable, Call, piece_of, One, Complete, handed}
use Rattle.sheets.specs.Sheet.{none_given}
use Rattle.sheets.specs.Steps.{Fair}

pub given_right : (l : End) (g : Float) → none_given l (Some g) ≡ false
given_right None g = refl
given_right (Some h) g = refl

pub given_left : (r : End) (l : End) (g : Float) → l ≡ Some g → none_given l r ≡ false
given_left r l g e = rw e

-- where sheets start and end
module _ (cuts : List ℕ) (n : ℕ) (h : cuts_fit cuts n ≡ true) where
  pub cut_fits_lem : (j : ℕ) → j < length cuts → (start_of cuts j < get_or cuts j 0) × (get_or cuts j 0 < n - 1)
  unfolding cuts_fit
  cut_fits_lem j l =
      let p = and_split (ltb (start_of cuts j) (get_or cuts j 0)) (ltb (get_or cuts j 0) (n - 1)) (all_at (length cuts) (cut_fits cuts n) h j l) in
      (ltb-true (start_of cuts j) (get_or cuts j 0) p.0, ltb-true (get_or cuts j 0) (n - 1) p.1)

pub next_start : (cuts : List ℕ) (j : ℕ) → get_or cuts j 0 ≡ start_of cuts (j + 1)
next_start cuts j =
    let e : j + 1 ≡ 0 → ⊥ = λ z. omega arith in
    let s : j + 1 - 1 ≡ j = omega arith in
    rw (ne_eqb (j + 1) 0 e, s)

finish_cut : (n : ℕ) (cuts : List ℕ) (j : ℕ) → j < length cuts → finish_of n cuts j ≡ get_or cuts j 0
finish_cut n cuts j l = let e : j ≡ length cuts → ⊥ = λ z. omega (arith, l) in rw (ne_eqb j (length cuts) e)

finish_last : (n : ℕ) (cuts : List ℕ) (j : ℕ) → j ≡ length cuts → finish_of n cuts j ≡ n - 1
finish_last n cuts j e = rw (eq-eqb j (length cuts) e)

-- a stretch of a table whose last place is `last`
pub record Stands (last : ℕ) (p : Piece) : Type 0 where
  pub rising : p.from < p.to
  pub inside : p.to ≤ last

-- sheets that cover such a table, a node given for one end of each at least
pub record Covers (last : ℕ) (ps : List Piece) : Type 0 where
  pub stands : (p : Piece) → One p ps → Stands last p
  pub given : (p : Piece) → One p ps → none_given p.left p.right ≡ false
  pub period : (i : ℕ) → i < last → (p : Piece) × One p ps × (p.from ≤ i) × (i < p.to)

pub one_map : {A B : Type 0} (f : A → B) (l : List A) (a : A) → One a l → One (f a) (map f l)
one_map f [] a o = absurd o
one_map f (b ∷ l) a (inl e) = inl (ap f e)
one_map f (b ∷ l) a (inr o) = inr (one_map f l a o)

pub map_one : {A B : Type 0} (f : A → B) (l : List A) (c : B) → One c (map f l) → (a : A) × One a l × (c ≡ f a)
map_one f [] c o = absurd o
map_one f (b ∷ l) c (inl e) = (b, inl refl, e)
map_one f (b ∷ l) c (inr o) = let q = map_one f l c o in (q.0, inr q.1, q.2)

module _ (x y : List Float) (cuts : List ℕ) (t : CutTable x y cuts) where
  abbrev n : ℕ
  n = length x

  -- one after the other
  module _ (j : ℕ) (l : j ≤ length cuts) where
    pub stretch : (start_of cuts j < finish_of n cuts j) × (finish_of n cuts j ≤ n - 1)
    stretch = by (lt_or_le j (length cuts))
      where
        by : (j < length cuts) ⊎ (length cuts ≤ j) → (start_of cuts j < finish_of n cuts j) × (finish_of n cuts j ≤ n - 1)
        by (inl u) = let (a, b) = cut_fits_lem cuts n t.inner j u in let e = finish_cut n cuts j u in (omega (arith, a, e), omega (arith, b, e))
        by (inr u) =
            let c = t.cut in
            let k : j - 1 < length cuts = omega (arith, l, u, c) in
            let (_, b) = cut_fits_lem cuts n t.inner (j - 1) k in
            let s : j - 1 + 1 ≡ j = omega (arith, u, c) in
            let w : get_or cuts (j - 1) 0 ≡ start_of cuts j = next_start cuts (j - 1) ∙ ap (start_of cuts) s in
            let f = finish_last n cuts j (omega (arith, l, u)) in
            (omega (arith, b, w, f), omega (arith, f))

    pub node_given : (q : Call) → q.sheet ≡ j → none_given (piece_of n cuts q).left (piece_of n cuts q).right ≡ false
    node_given q e = by (lt_or_le 0 q.sheet)
      where
        by : (0 < q.sheet) ⊎ (q.sheet ≤ 0) → none_given (piece_of n cuts q).left (piece_of n cuts q).right ≡ false
        by (inl u) = let z : q.sheet ≡ 0 → ⊥ = λ e. omega (arith, u) in given_left (piece_of n cuts q).right (piece_of n cuts q).left q.left (rw (ne_eqb q.sheet 0 z))
        by (inr u) =
            let c = t.cut in
            let z : q.sheet ≡ length cuts → ⊥ = λ e. omega (arith, u, c) in
            ap (none_given (piece_of n cuts q).left) (rw (ne_eqb q.sheet (length cuts) z)) ∙ given_right (piece_of n cuts q).left q.right

  -- every period is in a sheet
  reached : (i m : ℕ) → m ≤ length cuts → i < finish_of n cuts m → (j : ℕ) × (j ≤ length cuts) × (start_of cuts j ≤ i) × (i < finish_of n cuts j)
  reached i zero l h = (0, l, omega arith, h)
  reached i (suc m) l h =
      let s : m + 1 ≡ suc m = omega arith in
      ⊎_elim
      (λ (u : i < start_of cuts (suc m)).
      let k : m < length cuts = omega (arith, l) in
      let e = next_start cuts m ∙ ap (start_of cuts) s in
      let f = finish_cut n cuts m k in
      reached i m (omega (arith, l)) (omega (arith, u, e, f)))
      (λ (u : start_of cuts (suc m) ≤ i). (suc m, l, u, h))
      (lt_or_le i (start_of cuts (suc m)))

  pub covered : (calls : List Call) → Complete cuts calls → Covers (n - 1) (map (piece_of n cuts) calls)
  covered calls all = record {
    stands = λ p o.
        let (q, one, e) = map_one (piece_of n cuts) calls p o in
        let (a, b) = stretch q.sheet (all.only q one) in
        rw e (record { rising = a; inside = b });
    given = λ p o. let (q, one, e) = map_one (piece_of n cuts) calls p o in rw e (node_given q.sheet (all.only q one) q refl);
    period = λ i l.
        let f = finish_last n cuts (length cuts) refl in
        let (j, below, a, b) = reached i (length cuts) (le_refl (length cuts)) (omega (arith, l, f)) in
        let (q, one, e) = all.every j below in
        (piece_of n cuts q, one_map (piece_of n cuts) calls q one, rw e a, rw e b);
  }

  -- a sheet that is handed the whole's numbers
  module _ (method : ConvexMonotone) (j : ℕ) (l : j ≤ length cuts) where
    abbrev own : Piece
    own = piece_of n cuts (handed x y method cuts j)

    left_end_lem : ((own.from ≡ 0) × (own.left ≡ None)) ⊎ ((0 < own.from) × (own.left ≡ Some (node_at x y (whole method) own.from)))
    left_end_lem = by (lt_or_le 0 j)
      where
        by : (0 < j) ⊎ (j ≤ 0) → ((own.from ≡ 0) × (own.left ≡ None)) ⊎ ((0 < own.from) × (own.left ≡ Some (node_at x y (whole method) own.from)))
        by (inl u) =
            let z : j ≡ 0 → ⊥ = λ e. omega (arith, u) in
            let (a, _) = cut_fits_lem cuts n t.inner (j - 1) (omega (arith, l, u)) in
            let s : j - 1 + 1 ≡ j = omega (arith, u) in
            let w : get_or cuts (j - 1) 0 ≡ start_of cuts j = next_start cuts (j - 1) ∙ ap (start_of cuts) s in
            inr (omega (arith, a, w), rw (ne_eqb j 0 z))
        by (inr u) = let e = eq-eqb j 0 (omega (arith, u)) in inl (rw e, rw e)

    right_end : ((own.to ≡ n - 1) × (own.right ≡ None)) ⊎ ((own.to < n - 1) × (own.right ≡ Some (node_at x y (whole method) own.to)))
    right_end = by (lt_or_le j (length cuts))
      where
        by : (j < length cuts) ⊎ (length cuts ≤ j) →
            ((own.to ≡ n - 1) × (own.right ≡ None)) ⊎ ((own.to < n - 1) × (own.right ≡ Some (node_at x y (whole method) own.to)))
        by (inl u) =
            let z : j ≡ length cuts → ⊥ = λ e. omega (arith, u) in
            let (_, b) = cut_fits_lem cuts n t.inner j u in
            let e = finish_cut n cuts j u in
            inr (omega (arith, b, e), rw (ne_eqb j (length cuts) z))
        by (inr u) = let e : j ≡ length cuts = omega (arith, l, u) in inl (finish_last n cuts j e, rw (eq-eqb j (length cuts) e))

    pub fair : Fair x y method own
    fair = let (a, b) = stretch j l in record { rising = a; inside = b; left_end = left_end_lem; right_end = right_end; total = refl }

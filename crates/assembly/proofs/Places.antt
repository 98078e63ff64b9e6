-- The three sorts of node, by place, and how a pass that writes them in order comes to all of them.
use Prim.Native.Nat.{ℕ, ◌+◌, ◌-◌, ◌≤◌, ◌<◌}
use native.Mathlib.Omega.{arith}
use native.Mathlib.Nat.{zero-add, le_refl}
use mathlib.Core.Bool.{Bool, true, false, cond}
use mathlib.Core.List.{List}
use mathlib.Core.Path.{◌≡◌, refl, sym, ap, ◌∙◌}
use borrow.Author.Tests.{eq-eqb, ne_eqb, eqb-false}
use lib.Dec.{eqb}
use lib.Ieee.{Float, nan}
use lib.ListN.{length, set}
use lib.Seq.{get_or-set_other}
use Rattle.numbers.specs.Overlay.{overlay}
use Rattle.numbers.specs.Words.{zero}
use Rattle.numbers.proofs.Overlay.{overlay_none, overlay_more, overlay_join, overlay_inside, overlay_comm}
use Rattle.table.specs.declared.ends.Frame.{Frame}
use Rattle.table.specs.Table.{End, or_given, at, outer, or_given, middle_at, second, second_last, first_node, last_node, node_at, End}
use Rattle.assembly.specs.Steps.{beside, first_from, last_from}

beside_same : (n : ℕ) (other : End) (f g : Float) → ((n ≡ 2 → ⊥) → f ≡ g) → beside n other f ≡ beside n other g
beside_same n other f g h = by (eqb n 2) (eqb-false n 2)
  where
    by : (t : Bool) → (t ≡ false → n ≡ 2 → ⊥) → cond t (or_given other zero) f ≡ cond t (or_given other zero) g
    by true k = refl
    by false k = h (k refl)

-- a store before a stretch may come first
set_first : (old : List Float) (n : ℕ) (a : Float) (g : ℕ → Float) → set (overlay 1 n g old) 0 a ≡ overlay 1 n g (set old 0 a)
unfolding overlay
set_first old n a g = sym (overlay_comm 0 1 (λ k. a) 1 n g old (omega arith))

module _ (x y : List Float) (frame : Frame) where
  pub node_first : node_at x y frame 0 ≡ first_node x y frame
  unfolding node_at
  node_first = refl

  pub node_last : (i : ℕ) → 0 < i → i ≡ length x - 1 → node_at x y frame i ≡ last_node x y frame
  unfolding node_at
  node_last i p e = simp (ne_eqb i 0 (λ z. omega arith), eq-eqb i (length x - 1) e)

  pub node_middle : (i : ℕ) → 0 < i → i < length x - 1 → node_at x y frame i ≡ middle_at x y frame i
  unfolding node_at
  node_middle i p l = simp (ne_eqb i 0 (λ z. omega arith), ne_eqb i (length x - 1) (λ z. omega arith))

  -- an end node from the one beside it, which is there already where there are three points
  first_is : (a f : Float) → ((length x ≡ 2 → ⊥) → f ≡ middle_at x y frame 1) → a ≡ first_from (length x) (at y 1) frame f → a ≡ node_at x y frame 0
  unfolding first_node second
  first_is a f h e =
      e ∙ ap (λ (g : Float). or_given frame.left (outer frame.method.force_positive (at y 1) g)) (beside_same (length x) frame.right f (middle_at x y frame 1) h) ∙ sym node_first

  last_is : (last : ℕ) (b f : Float) → 0 < last → last ≡ length x - 1 → ((length x ≡ 2 → ⊥) → f ≡ middle_at x y frame (length x - 2)) →
      b ≡ last_from (length x) (at y last) frame f → b ≡ node_at x y frame last
  unfolding last_node second_last
  last_is last b f p l h e =
      e
      ∙ ap (λ (g : Float). or_given frame.right (outer frame.method.force_positive (at y last) g)) (beside_same (length x) frame.left f (middle_at x y frame (length x - 2)) h)
      ∙ ap (λ (i : ℕ). or_given frame.right (outer frame.method.force_positive (at y i) (beside (length x) frame.left (middle_at x y frame (length x - 2))))) l
      ∙ sym (node_last last p l)

  -- those between the ends, then the first, then the last
  module _ (old between : List Float) (last count : ℕ) (a b : Float) (n : 2 ≤ length x) (r : length x ≤ length old) (l : last ≡ length x - 1) (c : count ≡ length x - 2)
      (e : between ≡ overlay 1 count (λ k. node_at x y frame (1 + k)) old) where
    inner_there : (i : ℕ) → 0 < i → i ≤ count → at between i ≡ middle_at x y frame i
    inner_there i p h =
        let j : 1 + (i - 1) ≡ i = omega arith in
        ap (λ (ns : List Float). at ns i) e
        ∙ ap (λ (k : ℕ). at (overlay 1 count (λ k. node_at x y frame (1 + k)) old) k) (sym j)
        ∙ overlay_inside 1 count (λ k. node_at x y frame (1 + k)) old (i - 1) nan (omega arith) (omega (arith, r, c, n))
        ∙ ap (node_at x y frame) j
        ∙ node_middle i p (omega (arith, h, c))

    pub all_nodes : a ≡ first_from (length x) (at y 1) frame (at between 1) → b ≡ last_from (length x) (at y last) frame (at (set between 0 a) count) →
        set (set between 0 a) last b ≡ overlay 0 (length x) (node_at x y frame) old
    all_nodes ea eb =
        let first : a ≡ node_at x y frame 0 = first_is a (at between 1) (λ z. inner_there 1 (omega arith) (omega (arith, z, n, c))) ea in
        let end : b ≡ node_at x y frame last =
        last_is last b (at (set between 0 a) count) (omega (arith, l, n)) l
        (λ z.
        let k : count ≡ 0 → ⊥ = λ q. omega (arith, z, n, c, q) in
        get_or-set_other between 0 count a nan k ∙ inner_there count (omega (arith, k)) (le_refl count) ∙ ap (middle_at x y frame) c)
        eb in
        let rest : set between 0 a ≡ overlay 0 (1 + count) (node_at x y frame) old =
        ap (λ (ns : List Float). set ns 0 a) e
        ∙ set_first old count a (λ k. node_at x y frame (1 + k))
        ∙ ap (overlay 1 count (λ k. node_at x y frame (1 + k))) (overlay_more 0 0 (node_at x y frame) old old 0 a (overlay_none 0 (node_at x y frame) old) refl first)
        ∙ overlay_join 0 1 count (node_at x y frame) old in
        let c' : 1 + count ≡ last = omega (arith, l, c, n) in
        let d : last + 1 ≡ length x = omega (arith, l, n) in
        overlay_more 0 last (node_at x y frame) old (set between 0 a) last b (rw c' at rest) (omega arith) end
        ∙ ap (λ m. overlay 0 m (node_at x y frame) old) d

  -- a buffer that holds them
  pub nodes_hold : (old nodes : List Float) → nodes ≡ overlay 0 (length x) (node_at x y frame) old → length x ≤ length old →
      (k : ℕ) → k < length x → at nodes k ≡ node_at x y frame k
  nodes_hold old nodes e h k l =
      ap (λ (ns : List Float). at ns k) e
      ∙ ap (λ (j : ℕ). at (overlay 0 (length x) (node_at x y frame) old) j) (sym (zero-add k))
      ∙ overlay_inside 0 (length x) (node_at x y frame) old k nan l (rw (zero-add (length x)) h)

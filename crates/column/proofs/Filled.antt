-- Entries of a column that are written one after another, and block before block.
use Prim.Native.Nat as nat
use Prim.Native.Nat.{ℕ, suc, ◌+◌, ◌-◌, ◌*◌, ◌≤◌, ◌<◌}
use native.Mathlib.Omega.{arith}
use native.Mathlib.Nat.{zero-add}
use native.Mathlib.Numerals.{add-one}
use mathlib.Core.Bool.{Bool, true, cond}
use mathlib.Core.List.{List}
use mathlib.Core.Path.{◌≡◌, sym, ap, ◌∙◌}
use lib.Ieee.{Float, nan}
use lib.ListN.{length, set}
use Rattle.numbers.specs.Overlay.{overlay}
use Rattle.numbers.specs.Sizes.{slot_count}
use Rattle.numbers.proofs.Overlay.{overlay_more, overlay_same, overlay_join, overlay_comm, overlay_again, overlay_inside}
use Rattle.record.specs.Knots.{total_after}
use Rattle.table.specs.Table.{at}
use Rattle.column.specs.Steps.{total_before, weighed_by, start_by, number_at, asks_at, asked_at, entry_by}

-- all entries but the last, and then that one
pub with_last : (k n : ℕ) (f : ℕ → Float) (old new : List Float) (v : Float) → new ≡ overlay 0 k f old → v ≡ f k → k + 1 ≡ n → set new k v ≡ overlay 0 n f old
with_last k n f old new v e last size = overlay_more 0 k f old new k v e (sym (zero-add k)) last ∙ ap (λ (j : ℕ). overlay 0 j f old) size

-- a turn of the starts: the entry, by the total at hand, and the total that it leaves
module _ (mixed : Bool) (slots : List Float) (i : ℕ) where
  pub started : (total start : Float) → start ≡ cond mixed (weighed_by (at slots (slot_count * i)) total) total → total ≡ total_before slots i →
      start ≡ start_by mixed slots i
  started total start e g = e ∙ ap (λ (q : Float). cond mixed (weighed_by (at slots (slot_count * i)) q) q) g

  pub carried : at slots (slot_count * i + total_after) ≡ total_before slots (i + 1)
  carried = rw (add-one i)

-- the total that the record before holds
pub held_before : (slots : List Float) (i : ℕ) → 0 < i → at slots (slot_count * (i - 1) + total_after) ≡ total_before slots i
held_before slots nat.zero l = absurd (omega arith)
held_before slots (suc i) l = ap (λ (k : ℕ). at slots (slot_count * k + total_after)) (omega arith)

-- a block under positivity: its starts, and the numbers of those that are asked over them
module _ (mixed : Bool) (x : List Float) (tags : List ℕ) (slots : List Float) (from n : ℕ) (old starts : List Float) (e : starts ≡ overlay from n (λ k. start_by mixed slots (from + k)) old) where
  pub with_splits : (new : List Float) → from + n ≤ length old → new ≡ overlay from n (λ k. asked_at x tags slots starts (from + k)) starts →
      new ≡ overlay from n (λ k. entry_by mixed true x tags slots (from + k)) old
  with_splits new room f =
      f
      ∙ overlay_same from n (λ k. asked_at x tags slots starts (from + k)) (λ k. entry_by mixed true x tags slots (from + k)) starts
      (λ k l. ap (λ (q : Float). cond (asks_at x tags slots (from + k)) (number_at x tags slots (from + k)) q) (start_at_lem k l))
      ∙ ap (overlay from n (λ k. entry_by mixed true x tags slots (from + k))) e
      ∙ overlay_again from n (λ k. start_by mixed slots (from + k)) (λ k. entry_by mixed true x tags slots (from + k)) old
    where
      start_at_lem : (k : ℕ) → k < n → at starts (from + k) ≡ start_by mixed slots (from + k)
      start_at_lem k l = ap (λ (s : List Float). at s (from + k)) e ∙ overlay_inside from n (λ k. start_by mixed slots (from + k)) old k nan l room

-- a block before those that are written
pub block_before : (f : ℕ → Float) (from to n : ℕ) (first old new : List Float) → from ≤ to → to ≤ n → old ≡ overlay to (n - to) (λ k. f (to + k)) first →
    new ≡ overlay from (to - from) (λ k. f (from + k)) old → new ≡ overlay from (n - from) (λ k. f (from + k)) first
block_before f from to n first old new order room e g =
    g
    ∙ ap (overlay from (to - from) (λ k. f (from + k))) e
    ∙ sym (overlay_comm from (to - from) (λ k. f (from + k)) to (n - to) (λ k. f (to + k)) first (omega arith))
    ∙ overlay_same to (n - to) (λ k. f (to + k)) (λ k. f (from + (to - from + k))) (overlay from (to - from) (λ k. f (from + k)) first) (λ k l. ap f (omega arith))
    ∙ ap (λ (p : ℕ). overlay p (n - to) (λ k. f (from + (to - from + k))) (overlay from (to - from) (λ k. f (from + k)) first)) next
    ∙ overlay_join from (to - from) (n - to) (λ k. f (from + k)) first
    ∙ ap (λ (m : ℕ). overlay from m (λ k. f (from + k)) first) whole
  where
    next : to ≡ from + (to - from)
    next = omega arith

    whole : to - from + (n - to) ≡ n - from
    whole = omega arith

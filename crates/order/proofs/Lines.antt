-- A line from its parts.
use Prim.Native.Nat.{ℕ, ◌+◌, ◌-◌, ◌*◌, ◌%◌, ◌<◌}
use native.Mathlib.Omega.{arith}
use native.Mathlib.Numerals.{add-one}
use mathlib.Core.List.{List}
use mathlib.Core.Path.{◌≡◌, refl, ap, ◌∙◌}
use borrow.Author.Tests.{lt-ltb, le-ltb}
use lib.ListN.{length, set, length-set}
use Rattle.numbers.specs.Overlay.{overlay}
use Rattle.numbers.proofs.Overlay.{overlay_more, overlay_same, overlay_join, length_overlay}
use Rattle.order.specs.Text.{hex_at, shifted, query_byte}

pub shifted_none : (w : ℕ) → w ≡ shifted w 0
unfolding shifted
shifted_none w = refl

pub shifted_more : (w k l : ℕ) → l ≡ shifted w k → l % 0x1000_0000_0000_0000 * 16 ≡ shifted w (k + 1)
unfolding shifted
shifted_more w k l e = rw (e, add-one k)

module _ (r v p : ℕ) where
  abbrev f : ℕ → ℕ
  f = query_byte r v p

  start_same : (k : ℕ) → k < 5 → query_byte r 0 0 k ≡ f k
  start_same k h = rw (lt-ltb k 5 h)

  value_same : (k : ℕ) → k < 16 → hex_at v k ≡ f (5 + k)
  value_same k h =
      let e : 5 + k - 5 ≡ k = omega arith in
      rw (le-ltb (5 + k) 5 (omega arith), lt-ltb (5 + k) 21 (omega arith), e)

  primitive_same : (k : ℕ) → k < 16 → hex_at p k ≡ f (22 + k)
  primitive_same k h =
      let e : 22 + k - 22 ≡ k = omega arith in
      rw (le-ltb (22 + k) 5 (omega arith), le-ltb (22 + k) 21 (omega arith), le-ltb (22 + k) 22 (omega arith), lt-ltb (22 + k) 38 (omega arith), e)

  -- five bytes, sixteen, one, sixteen, one
  pub query_line : (at : ℕ) (old a b c d e : List ℕ) →
      a ≡ overlay at 5 (query_byte r 0 0) old → b ≡ overlay (at + 5) 16 (hex_at v) a → c ≡ set b (at + 21) 32 → d ≡ overlay (at + 22) 16 (hex_at p) c → e ≡ set d (at + 38) 10 →
      e ≡ overlay at 39 f old
  query_line at old a b c d e ea eb ec ed ee =
      let a5 : a ≡ overlay at 5 f old = ea ∙ overlay_same at 5 (query_byte r 0 0) f old start_same in
      let b21 : b ≡ overlay at 21 f old =
      eb ∙ overlay_same (at + 5) 16 (hex_at v) (λ k. f (5 + k)) a value_same ∙ ap (overlay (at + 5) 16 (λ k. f (5 + k))) a5 ∙ overlay_join at 5 16 f old in
      let c22 : c ≡ overlay at 22 f old = ec ∙ overlay_more at 21 f old b (at + 21) 32 b21 refl refl in
      let d38 : d ≡ overlay at 38 f old =
      ed ∙ overlay_same (at + 22) 16 (hex_at p) (λ k. f (22 + k)) c primitive_same ∙ ap (overlay (at + 22) 16 (λ k. f (22 + k))) c22 ∙ overlay_join at 22 16 f old in
      ee ∙ overlay_more at 38 f old d (at + 38) 10 d38 refl refl

  pub so_far : (at : ℕ) (old a b c d : List ℕ) →
      a ≡ overlay at 5 (query_byte r 0 0) old → b ≡ overlay (at + 5) 16 (hex_at v) a → c ≡ set b (at + 21) 32 → d ≡ overlay (at + 22) 16 (hex_at p) c → length d ≡ length old
  so_far at old a b c d ea eb ec ed =
      ap length ed
      ∙ length_overlay (at + 22) 16 (hex_at p) c
      ∙ ap length ec
      ∙ length-set b (at + 21) 32
      ∙ ap length eb
      ∙ length_overlay (at + 5) 16 (hex_at v) a
      ∙ ap length ea
      ∙ length_overlay at 5 (query_byte r 0 0) old

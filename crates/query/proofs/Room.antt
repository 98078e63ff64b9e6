-- The verdict on many queries in its three parts, and what it leaves in the buffer.
use Rattle.query.specs.declared.answer.ManyRefusal.TheVariants as many
use Rattle.std.specs.Prelude.{Err, Ok}
use Prim.Native.Nat.{ℕ, ◌≤◌}
use mathlib.Core.Bool.{true, false}
use mathlib.Core.List.{List, [], ◌∷◌}
use mathlib.Core.Path.{◌≡◌, refl, sym, ap, ◌∙◌}
use lib.Dec.{ltb}
use lib.Ieee.{Float}
use borrow.Author.Tests.{ltb-false}
use Rattle.numbers.specs.OneOutcome.{pair}
use Rattle.numbers.proofs.Ways.{never}
use Rattle.refusal.specs.Refusal.{◌⇒◌, first, and_then, Verdict}
use Rattle.refusal.specs.declared.Refusal.{Refusal}
use Rattle.refusal.specs.declared.Refusal.TheVariants.{BufferTooShort}
use Rattle.refusal.proofs.First.{passed, both_accept, first_append}
use Rattle.query.specs.Query.{curve_tests}
use Rattle.query.specs.Many.{or_next, many_tests, of_all, many_by, ManyAnswer}
use Rattle.query.proofs.Covering.{is_answered, both_answered}

all_of : (v : Verdict) → of_all v ≡ Ok tt → v ≡ Ok tt
all_of (Ok tt) h = refl
all_of (Err r) h = never (ap is_answered h) refl

module _ (x : List Float) (tags slots queries room : ℕ) where
  pub refused_before : (v : Verdict) (rest : ManyAnswer) (r : Refusal) → v ≡ first (curve_tests x tags slots) → v ≡ Err r → Err (many.Whole r) ≡ or_next (of_all (first (many_tests x tags slots queries room))) rest
  refused_before v rest r e f =
      sym (ap (λ (w : Verdict). or_next (of_all w) rest) (first_append (curve_tests x tags slots) ((ltb room queries ⇒ BufferTooShort) ∷ []) ∙ ap (λ (w : Verdict). and_then w (first ((ltb room queries ⇒ BufferTooShort) ∷ []))) (sym e ∙ f)))

  pub no_room_lem : (rest : ManyAnswer) → first (curve_tests x tags slots) ≡ Ok tt → ltb room queries ≡ true → Err (many.Whole BufferTooShort) ≡ or_next (of_all (first (many_tests x tags slots queries room))) rest
  no_room_lem rest e h =
      let p : first (many_tests x tags slots queries room) ≡ Err BufferTooShort = first_append (curve_tests x tags slots) ((ltb room queries ⇒ BufferTooShort) ∷ []) ∙ rw (e, h) in
      sym (ap (λ (w : Verdict). or_next (of_all w) rest) p)

  pub with_room : (v rest : ManyAnswer) → first (curve_tests x tags slots) ≡ Ok tt → ltb room queries ≡ false → v ≡ rest → v ≡ or_next (of_all (first (many_tests x tags slots queries room))) rest
  with_room v rest e h f =
      let p : first (many_tests x tags slots queries room) ≡ Ok tt = first_append (curve_tests x tags slots) ((ltb room queries ⇒ BufferTooShort) ∷ []) ∙ rw (e, h) in
      f ∙ sym (ap (λ (w : Verdict). or_next (of_all w) rest) p)

  -- what is accepted has passed all three
  pub record Ready (rest : ManyAnswer) : Type 0 where
    pub of_curve : first (curve_tests x tags slots) ≡ Ok tt
    pub room_enough : queries ≤ room
    pub of_queries : rest ≡ Ok tt

  pub ready : (rest : ManyAnswer) → or_next (of_all (first (many_tests x tags slots queries room))) rest ≡ Ok tt → Ready rest
  ready rest h =
      let b = both_answered (of_all (first (many_tests x tags slots queries room))) rest h in
      let t = both_accept (first (curve_tests x tags slots)) (first ((ltb room queries ⇒ BufferTooShort) ∷ []))
      (sym (first_append (curve_tests x tags slots) ((ltb room queries ⇒ BufferTooShort) ∷ [])) ∙ all_of (first (many_tests x tags slots queries room)) b.0) in
      record { of_curve = t.0; room_enough = ltb-false room queries (passed ((ltb room queries ⇒ BufferTooShort) ∷ []) t.1).0; of_queries = b.1 }

-- an outcome of many, by the verdict
module _ (v w : ManyAnswer) (new old : List Float) where
  pub many_refused : (r : Refusal) → v ≡ w → v ≡ Err (many.Whole r) → pair v old ≡ many_by w new old
  many_refused r e f = ap (λ (u : ManyAnswer). pair u old) f ∙ ap (λ (u : ManyAnswer). many_by u new old) (sym f ∙ e)

  pub many_refused_at : (r : Refusal) (k : ℕ) → v ≡ w → v ≡ Err (many.Query r k) → pair v old ≡ many_by w new old
  many_refused_at r k e f = ap (λ (u : ManyAnswer). pair u old) f ∙ ap (λ (u : ManyAnswer). many_by u new old) (sym f ∙ e)

  pub many_accepted : (l : List Float) → v ≡ w → v ≡ Ok tt → l ≡ new → pair v l ≡ many_by w new old
  many_accepted l e f g = ap (λ (u : ManyAnswer). pair u l) f ∙ ap (pair (Ok tt)) g ∙ ap (λ (u : ManyAnswer). many_by u new old) (sym f ∙ e)

-- What accepted sizes mean, and what an answer says of the verdict on them.
use Rattle.std.specs.Prelude.{Err, Ok}
use Prim.Native.Nat.{ℕ, ◌≤◌}
use mathlib.Core.Bool.{false, not}
use mathlib.Core.List.{List}
use mathlib.Core.Path.{◌≡◌, refl, sym, ap, ◌∙◌}
use borrow.Author.Tests.{ltb-false, eqb-true, not-false}
use lib.Dec.{ltb, eqb}
use lib.Ieee.{Float}
use Rattle.refusal.specs.Refusal.{first, Verdict}
use Rattle.refusal.specs.declared.Refusal.{Refusal}
use Rattle.refusal.proofs.First.{next}
use Rattle.table.specs.Buffers.{Buffers, Outcome}
use Rattle.table.specs.Check.{room_tests}
use Rattle.table.specs.Sound.{Room}
use Rattle.table.specs.declared.ends.Frame.{Frame}
use Rattle.table.proofs.Outcomes as outcomes
use Rattle.table.proofs.Sound.{room}
use Rattle.assembly.specs.Making.{size_tests, after, made_from, Made}
use Rattle.assembly.specs.Sections.{tail_of}
use Rattle.assembly.specs.declared.sections.Tail.{Tail}

-- a table of n knots and m averages, and lent buffers that it fits into
pub record Fits (n m nodes tags slots : ℕ) : Type 0 where
  pub same : n ≡ m
  pub low : 2 ≤ n
  pub room : Room n nodes tags slots

module _ (n m nodes tags slots : ℕ) where
  pub fits : first (size_tests n m nodes tags slots) ≡ Ok tt → Fits n m nodes tags slots
  fits h =
      let (same, others) = next _ _ _ h in
      let (low, sizes) = next _ _ _ others in
      record { same = eqb-true n m (not-false (eqb n m) same); low = ltb-false n 2 low; room = room n nodes tags slots sizes }

  -- of a table whose lengths have been asked about, only room is left to ask for
  pub only_room : not (eqb n m) ≡ false → ltb n 2 ≡ false → first (size_tests n m nodes tags slots) ≡ first (room_tests n nodes tags slots)
  only_room p q = rw (p, q)

-- the verdict that an answer has, and the tail in it
abbrev is_made : Made → Verdict
is_made (Ok t) = (Ok tt)
is_made (Err r) = Err r

abbrev tail_in : Tail → Made → Tail
tail_in d (Ok t) = t
tail_in d (Err r) = d

module _ (p : ℕ) (x y : List Float) (frame : Frame) (v : Verdict) (b : Buffers) (o : Outcome Made) (e : o ≡ made_from p x y frame v b) where
  pub was_refused : (r : Refusal) → o.answer ≡ Err r → (v ≡ Err r) × (o.buffers ≡ b)
  was_refused r f =
      let w = outcomes.was_refused is_made v Err (λ r. refl) b _ refl o r e f in
      (w, ap (λ (q : Outcome Made). q.buffers) (outcomes.left_old v Err b _ o r e w))

  pub was_made : (t : Tail) → o.answer ≡ Ok t → (v ≡ Ok tt) × (t ≡ tail_of x y frame) × (o.buffers ≡ after p x y frame b)
  was_made t f =
      let w = outcomes.was_accepted is_made v Err (λ r. refl) b _ refl o e (ap is_made f) in
      let n = outcomes.left_new v Err b _ o e w in
      (w, ap (tail_in t) (sym f ∙ ap (λ (q : Outcome Made). q.answer) n), ap (λ (q : Outcome Made). q.buffers) n)

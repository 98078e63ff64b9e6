-- Many queries against each by itself: they are accepted together exactly when each is, and each then gets the number that it gets alone.
use Rattle.std.specs.Prelude.{Ok}
use Prim.Native.Nat.{ℕ, ◌≤◌, ◌<◌}
use native.Mathlib.Omega.{arith}
use native.Mathlib.Nat.{zero-add}
use mathlib.Core.List.{List}
use mathlib.Core.Path.{◌≡◌, sym, ap, ◌∙◌}
use lib.Ieee.{Float, nan}
use lib.ListN.{length, get_or}
use Rattle.numbers.proofs.Overlay.{overlay_inside}
use Rattle.section.specs.declared.section.Section.{Section}
use Rattle.table.specs.Table.{at}
use Rattle.curve.specs.declared.curve.Curve.{Curve}
use Rattle.query.specs.Query.{verdict_in}
use Rattle.query.specs.Many.{ask_at, formula_at, queries_verdict, answers_after}
use Rattle.query.proofs.Covering.{every, all_accepted}

module _ (f : Section → Float → Float) (x : List Float) (curve : Curve) (tags : List ℕ) (slots qs : List Float) where
  -- none is refused together that is not refused alone
  pub together : ((i : ℕ) → i < length qs → verdict_in (ask_at f x curve tags slots (at qs i)) ≡ Ok tt) → queries_verdict f x curve tags slots qs ≡ Ok tt
  together h = every (length qs) (λ i. verdict_in (ask_at f x curve tags slots (at qs i))) h

  -- nor the other way
  pub alone : queries_verdict f x curve tags slots qs ≡ Ok tt → (i : ℕ) → i < length qs → verdict_in (ask_at f x curve tags slots (at qs i)) ≡ Ok tt
  alone h = all_accepted (length qs) (λ i. verdict_in (ask_at f x curve tags slots (at qs i))) h

  -- the number at place i is that of query i by itself
  pub same_number : (out : List Float) → length qs ≤ length out → (i : ℕ) → i < length qs → get_or (answers_after f x curve tags slots qs out) i nan ≡ formula_at f x curve tags slots (at qs i)
  same_number out room i l =
      ap (λ (j : ℕ). get_or (answers_after f x curve tags slots qs out) j nan) (sym (zero-add i))
      ∙ overlay_inside 0 (length qs) (λ k. formula_at f x curve tags slots (at qs k)) out i nan l (omega (arith, room))

-- What a build with a column leaves, by what the build without one does.
use Rattle.curve.specs.Curve.{Built}
use Rattle.refusal.specs.Refusal.{Verdict}
use Rattle.std.specs.Prelude.{Err, Ok, Option}
use Prim.Native.Nat.{ℕ, ◌≤◌}
use mathlib.Core.Bool.{Bool, true}
use mathlib.Core.List.{List}
use mathlib.Core.Path.{◌≡◌, refl, sym, ap, ◌∙◌}
use borrow.Author.Tests.{le-ltb}
use lib.Dec.{ltb}
use lib.Ieee.{Float}
use lib.ListN.{length}
use Rattle.refusal.specs.declared.Refusal.{Refusal}
use Rattle.table.specs.Buffers.{Buffers, Outcome, outcome, judged}
use Rattle.table.specs.declared.method.ConvexMonotone.{ConvexMonotone}
use Rattle.table.specs.declared.ends.Seam.{Seam}
use Rattle.table.proofs.Outcomes.{was_accepted}
use Rattle.curve.specs.Build.{build_verdict, curve_of, build_outcome}
use Rattle.curve.specs.declared.curve.Curve.{Curve}
use Rattle.curve.proofs.Careful.{verdict_in}
use Rattle.growth.specs.Growth.{grown, Carried}
use Rattle.column.specs.Column.{Columned, columned, with_column}
use Rattle.column.specs.Steps.{last_verdict, column_of, JustBuilt}

module _ (x : List Float) (b : Buffers) (column : List Float) where
  -- a short column: what refuses the build is told, and else the column
  too_short : (v : Verdict) (c : Curve) (new : Buffers) → ltb (length column) (length x) ≡ true →
      record { answer = last_verdict v; buffers = b; column = column } ≡ with_column x b column (judged v Err b (record { answer = Ok c; buffers = new }))
  too_short (Ok tt) c new h = rw h
  too_short (Err r) c new h = refl

  -- a build that is refused leaves the column as it was, and with room for it a curve's column is written
  columned_by : (k : Built) (n : List Float) (t : List ℕ) (s : List Float) → length x ≤ length column →
      columned k n t s (column_of x k t s column) ≡ with_column x b column (outcome k n t s)
  columned_by (Err r) n t s room = refl
  columned_by (Ok c) n t s room = rw (le-ltb (length column) (length x) room)

  pub with_entries : (o : Outcome Built) (k answer : Built) (n : List Float) (t : List ℕ) (s filled : List Float) → outcome k n t s ≡ o → length x ≤ length column →
      answer ≡ k → filled ≡ column_of x k t s column → columned answer n t s filled ≡ with_column x b column o
  with_entries o k answer n t s filled e room f g =
      ap (λ (a : Built). columned a n t s filled) f
      ∙ ap (λ (l : List Float). columned k n t s l) g
      ∙ columned_by k n t s room
      ∙ ap (with_column x b column) e

  -- growth: what is carried is refused, or built with
  pub not_carried : (k : Carried) (r : Refusal) (build : Option Seam → Outcome Built) → k ≡ Err r →
      record { answer = Err r; buffers = b; column = column } ≡ with_column x b column (grown k b build)
  not_carried k r build e = rw e

  pub carried_on : (k : Carried) (s : Option Seam) (build : Option Seam → Outcome Built) (o : Columned) → k ≡ Ok s → o ≡ with_column x b column (build s) →
      o ≡ with_column x b column (grown k b build)
  carried_on k s build o e h = rw e h

module _ (x y : List Float) (method : ConvexMonotone) (hold : Bool) (seam : Option Seam) (b : Buffers) where
  pub short_column : (column : List Float) (answer : Built) → answer ≡ last_verdict (build_verdict x y method seam b) → ltb (length column) (length x) ≡ true →
      record { answer = answer; buffers = b; column = column } ≡ with_column x b column (build_outcome x y method hold seam b)
  unfolding curve_of
  short_column column answer e h =
      ap (λ (a : Built). record { answer = a; buffers = b; column = column }) e ∙ too_short x b column (build_verdict x y method seam b) _ _ h

  -- a curve that was answered was accepted
  pub accepted_build : (o : Outcome Built) (c : Curve) → o ≡ build_outcome x y method hold seam b → o.answer ≡ Ok c → build_verdict x y method seam b ≡ Ok tt
  unfolding curve_of
  accepted_build o c e f = was_accepted verdict_in (build_verdict x y method seam b) Err (λ r. refl) b _ refl o e (ap verdict_in f)

  pub just_built : (k : Built) (n : List Float) (t : List ℕ) (s : List Float) (c : Curve) → outcome k n t s ≡ build_outcome x y method hold seam b → k ≡ Ok c →
      JustBuilt x y method seam c t s
  just_built k n t s c e f = record { hold = hold; lent = b; nodes = n; is = ap (λ (a : Built). outcome a n t s) (sym f) ∙ e }

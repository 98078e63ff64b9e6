-- What is known of a curve that was just built: its records and its tail are those of the table, so its column is told by them.
use Rattle.curve.specs.Curve.{Built}
use Rattle.std.specs.Prelude.{Err, Ok, Option}
use Prim.Native.Nat.{ℕ, ◌+◌, ◌-◌, ◌<◌}
use mathlib.Core.Bool.{true}
use mathlib.Core.List.{List}
use mathlib.Core.Path.{◌≡◌, refl, sym, subst, ◌∙◌}
use lib.Ieee.{Float}
use lib.ListN.{length}
use Rattle.section.specs.EverywhereConstant as constant
use Rattle.section.specs.Section as section
use Rattle.table.specs.Buffers.{Outcome, outcome}
use Rattle.table.specs.Sound.{Sound, Room}
use Rattle.table.specs.Table.{at}
use Rattle.table.specs.declared.ends.Seam.{Seam}
use Rattle.table.specs.declared.method.ConvexMonotone.{ConvexMonotone}
use Rattle.assembly.specs.Making.{after}
use Rattle.curve.specs.Build.{build_verdict, whole_frame}
use Rattle.curve.specs.declared.curve.Curve.{Curve}
use Rattle.curve.proofs.Accepted.{accepted_sound, accepted_room}
use Rattle.query.specs.Query.{tail_section}
use Rattle.query.proofs.Whole as whole
use Rattle.numbers.specs.Words.{finite}
use Rattle.numbers.proofs.Every.{and_split}
use Rattle.numbers.proofs.Overlay.{length_overlay}
use Rattle.column.specs.Column.{column_at}
use Rattle.column.specs.Steps.{modest_table, whole_total, readable, JustBuilt, number_at, entry_at}
use Rattle.column.proofs.Entries.{last_entry, number_here, section_entry}
use Rattle.column.proofs.Left.{accepted_build}

-- the curve that a build answered
unfoldable pub curve_in : Curve → Built → Curve
curve_in d (Ok c) = c
curve_in d (Err r) = d

module _ {x y : List Float} {method : ConvexMonotone} {seam : Option Seam} {curve : Curve} {tags : List ℕ} {slots : List Float} (j : JustBuilt x y method seam curve tags slots) where
  abbrev o : Outcome Built
  o = outcome (Ok curve) j.nodes tags slots

  accepted : build_verdict x y method seam j.lent ≡ Ok tt
  accepted = accepted_build x y method j.hold seam j.lent o curve j.is refl

  abbrev new : Outcome Built
  new = record { answer = Ok (whole.curve x y method j.hold seam j.lent accepted); buffers = after 0 x y (whole_frame (length x) method j.hold seam) j.lent }

  all : o ≡ new
  all = j.is ∙ whole.built_curve x y method j.hold seam j.lent accepted

  -- ---- the table was accepted, and the buffers have room for its records
  pub sound : Sound x y method
  sound = accepted_sound x y method seam (length j.lent.nodes) (length j.lent.tags) (length j.lent.slots) accepted

  pub room : Room (length x) (length j.lent.nodes) (length tags) (length slots)
  room =
      subst (λ (p : Outcome Built). Room (length x) (length j.lent.nodes) (length p.buffers.tags) (length p.buffers.slots)) (sym all)
      (rw (length_overlay, length_overlay) (accepted_room x y method seam (length j.lent.nodes) (length j.lent.tags) (length j.lent.slots) accepted))

  -- ---- at its own left knot each section answers
  pub numbers : (i : ℕ) → i < length x - 1 → number_at x tags slots i ≡ column_at x curve tags slots i
  unfolding curve_in
  numbers i l =
      subst
      (λ (p : Outcome Built). number_at x p.buffers.tags p.buffers.slots i ≡ column_at x (curve_in curve p.answer) p.buffers.tags p.buffers.slots i) (sym all)
      (number_here x y method j.hold seam j.lent accepted i l)

  -- ---- in a table of ordinary size as its record tells
  pub entries : readable x y method seam slots ≡ true → (i : ℕ) → i < length x - 1 → entry_at method x tags slots i ≡ column_at x curve tags slots i
  unfolding curve_in
  entries test i l =
      let both = and_split (modest_table x y method seam) (finite (whole_total x slots)) test in
      let counted = subst (λ (p : Outcome Built). finite (whole_total x p.buffers.slots) ≡ true) all both.1 in
      subst
      (λ (p : Outcome Built). entry_at method x p.buffers.tags p.buffers.slots i ≡ column_at x (curve_in curve p.answer) p.buffers.tags p.buffers.slots i) (sym all)
      (section_entry x y method j.hold seam j.lent accepted both.0 counted i l)

  -- ---- and at the last by its tail
  pub last : (k : ℕ) → k + 1 ≡ length x → constant.primitive (constant.new curve.tail.value curve.tail.total curve.tail.from) (at x k) ≡ column_at x curve tags slots k
  unfolding curve_in section.primitive
  last k e =
      subst
      (λ (p : Outcome Built).
      section.primitive (tail_section (curve_in curve p.answer)) (at x k) ≡ column_at x (curve_in curve p.answer) p.buffers.tags p.buffers.slots k) (sym all)
      (last_entry x y method j.hold seam j.lent accepted k e)

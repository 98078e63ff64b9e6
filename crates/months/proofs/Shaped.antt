-- Of periods that nothing refuses, making refuses nothing, and what it leaves is what a build leaves.
use Rattle.std.specs.Prelude.{Err, Ok, Option}
use Prim.Native.Nat.{ℕ, ◌-◌, ◌≤◌}
use mathlib.Core.Bool.{Bool, true, false, not}
use mathlib.Core.List.{List}
use mathlib.Core.Path.{◌≡◌, ap, ◌∙◌}
use borrow.Author.Tests.{le-ltb, eq-eqb}
use lib.Ieee.{Float, nan}
use lib.ListN.{length, take}
use Rattle.numbers.specs.Overlay.{overlay}
use Rattle.numbers.proofs.Ways.{never}
use Rattle.refusal.specs.Refusal.{first, Verdict}
use Rattle.refusal.specs.declared.Refusal.{Refusal}
use Rattle.table.specs.Buffers.{Buffers}
use Rattle.table.specs.Sound.{Room}
use Rattle.table.specs.declared.ends.Frame.{Frame}
use Rattle.table.specs.declared.ends.Seam.{Seam}
use Rattle.table.specs.declared.method.ConvexMonotone.{ConvexMonotone}
use Rattle.table.proofs.Sound.{has_room}
use Rattle.assembly.specs.Making.{size_tests, after}
use Rattle.assembly.specs.Sections.{tail_of}
use Rattle.assembly.specs.declared.sections.Tail.{Tail}
use Rattle.assembly.proofs.Sizes.{only_room}
use Rattle.curve.specs.Build.{whole_frame, curve_of}
use Rattle.months.specs.Building.{monthly_built}
use Rattle.months.specs.Knots.{knot_at, month_knots}
use Rattle.months.specs.declared.periods.Periods.{Periods}
use Rattle.months.proofs.Listed.{length_listed, take_filled}

is_accepted : Verdict → Bool
is_accepted (Ok tt) = true
is_accepted (Err r) = false

pub not_both : {A : Type 0} (v : Verdict) (r : Refusal) → v ≡ Ok tt → v ≡ Err r → A
unfolding is_accepted
not_both v r e f = never (ap is_accepted e) (ap is_accepted f)

pub sizes_fit : (k n m nodes tags slots : ℕ) → k ≡ n → n ≡ m → 2 ≤ n → Room n nodes tags slots → first (size_tests k m nodes tags slots) ≡ Ok tt
sizes_fit k n m nodes tags slots f e h r = rw f (only_room n m nodes tags slots (ap not (eq-eqb n m e)) (le-ltb n 2 h) ∙ has_room n nodes tags slots r)

module _ (p : Periods) (y : List Float) (method : ConvexMonotone) (hold : Bool) (seam : Option Seam) (knots : List Float) (b : Buffers) where
  -- the part of the slice that holds the knots
  pub filled_part : (k : List Float) → p.knots ≤ length knots → k ≡ overlay 0 p.knots (knot_at p) knots → take p.knots k ≡ month_knots p
  filled_part k h e = ap (take p.knots) e ∙ take_filled (knot_at p) p.knots knots nan h

  pub is_built : (x : List Float) (frame : Frame) (t : Tail) (k : List Float) (c : Buffers) →
      x ≡ month_knots p → frame ≡ whole_frame p.knots method hold seam → k ≡ overlay 0 p.knots (knot_at p) knots →
      t ≡ tail_of x y frame → c ≡ after 0 x y frame b →
      record { answer = Ok (record { sections = p.knots - 1; held = hold; extrapolates = false; tail = t }); knots = k; buffers = c } ≡ monthly_built p y method hold seam knots b
  unfolding curve_of
  is_built x frame t k c ex ef ek et ec = rw (et, ec, ef, ex, ek, length_listed (knot_at p) 0 p.knots)

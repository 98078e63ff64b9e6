-- An accepted table is sound and its buffers have room; only sizes are left to ask about where 1 to 8 and 29 are passed.
use Rattle.std.specs.Prelude.{Err, Ok, Option}
use Prim.Native.Nat.{ℕ}
use mathlib.Core.Bool.{false, not}
use mathlib.Core.List.{List, [], ◌∷◌}
use mathlib.Core.Path.{◌≡◌, sym, ap, ◌∙◌}
use borrow.Author.Tests.{eq-eqb, le-ltb}
use lib.Ieee.{Float}
use lib.ListN.{length}
use Rattle.numbers.specs.Words.{zero}
use Rattle.refusal.specs.Refusal.{first, number, and_then, Verdict}
use Rattle.refusal.specs.declared.Refusal.{Refusal}
use Rattle.refusal.proofs.First.{passed, both_accept, first_append}
use Rattle.table.specs.Check.{table_tests, seam_too_long, seam_test, sign_test, room_tests}
use Rattle.table.specs.Sound.{Sound, Room}
use Rattle.table.specs.declared.method.ConvexMonotone.{ConvexMonotone}
use Rattle.table.specs.declared.ends.Seam.{Seam}
use Rattle.table.proofs.Sound.{sound, is_sound, room, has_room}
use Rattle.assembly.specs.Making.{size_tests}
use Rattle.assembly.proofs.Sizes.{only_room}
use Rattle.curve.specs.Build.{seamed_tests, build_tests}
use Rattle.curve.specs.Curve.{curve_in_numbers, Built}
use Rattle.curve.specs.declared.curve.Curve.{Curve}

module _ (x y : List Float) (method : ConvexMonotone) (seam : Option Seam) (nodes tags slots : ℕ) where
  -- what has passed 1 to 8 and 29 is sound, and its seam fits
  pub seamed : first (seamed_tests x y method seam) ≡ Ok tt → Sound x y method
  seamed h =
      let (numbers, others) = both_accept _ _ (sym (first_append (table_tests x y method) (seam_test seam (length x) ∷ sign_test y method ∷ [])) ∙ h) in
      let (_, (signs, _)) = passed (seam_test seam (length x) ∷ sign_test y method ∷ []) others in
      sound x y method numbers signs

  pub settled : first (seamed_tests x y method seam) ≡ Ok tt →
      first (build_tests x y method seam nodes tags slots) ≡ first (size_tests (length x) (length y) nodes tags slots)
  settled h =
      let s = seamed h in
      first_append (seamed_tests x y method seam) (room_tests (length x) nodes tags slots)
      ∙ ap (λ (v : Verdict). and_then v (first (room_tests (length x) nodes tags slots))) h
      ∙ sym (only_room (length x) (length y) nodes tags slots (ap not (eq-eqb (length x) (length y) s.same)) (le-ltb (length x) 2 s.low))

  parts : first (build_tests x y method seam nodes tags slots) ≡ Ok tt →
      (first (seamed_tests x y method seam) ≡ Ok tt) × (first (room_tests (length x) nodes tags slots) ≡ Ok tt)
  parts h = both_accept _ _ (sym (first_append (seamed_tests x y method seam) (room_tests (length x) nodes tags slots)) ∙ h)

  -- an accepted table is sound, and its buffers have room
  pub accepted_sound : first (build_tests x y method seam nodes tags slots) ≡ Ok tt → Sound x y method
  accepted_sound h = seamed (parts h).0

  pub accepted_room : first (build_tests x y method seam nodes tags slots) ≡ Ok tt → Room (length x) nodes tags slots
  accepted_room h = room (length x) nodes tags slots (parts h).1

  -- and of one that is, nothing is refused
  pub accepts : Sound x y method → seam_too_long seam (length x) ≡ false → Room (length x) nodes tags slots → first (build_tests x y method seam nodes tags slots) ≡ Ok tt
  accepts s f r =
      first_append (seamed_tests x y method seam) (room_tests (length x) nodes tags slots)
      ∙ rw (first_append (table_tests x y method) (seam_test seam (length x) ∷ sign_test y method ∷ []), is_sound x y method s, f, s.signs) (has_room (length x) nodes tags slots r)

-- an answer in numbers
pub told_curve : (b : Built) (c : Curve) → b ≡ Ok c → record { refusal = 0; sections = c.sections; held = c.held; extrapolates = c.extrapolates; tail = c.tail } ≡ curve_in_numbers b
told_curve b c e = rw e

pub told_no_curve : (b : Built) (r : Refusal) (n : ℕ) → b ≡ Err r → n ≡ number r →
    record { refusal = n; sections = 0; held = false; extrapolates = false; tail = record { value = zero; total = zero; from = zero } } ≡ curve_in_numbers b
told_no_curve b r n e f = rw (e, f)

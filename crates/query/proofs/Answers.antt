-- What an accepted curve says of the lengths, what a verdict makes of the section that was found, and an answer in numbers.
use Rattle.std.specs.Prelude.{Err, Ok, Option, Some}
use Prim.Native.Nat.{ℕ, ◌-◌, ◌*◌, ◌≤◌}
use native.Mathlib.Nat.{le_refl}
use native.Mathlib.Omega.{arith}
use mathlib.Core.List.{List}
use mathlib.Core.Bool.{true, false}
use mathlib.Core.Path.{◌≡◌, sym, ◌∙◌}
use borrow.Author.Tests.{ltb-false, not-false}
use lib.Dec.{ltb}
use lib.Ieee.{Float, ne}
use lib.ListN.{length}
use Rattle.numbers.specs.Sizes.{slot_count}
use Rattle.section.specs.declared.section.Section.{Section}
use Rattle.numbers.specs.Words.{zero, finite}
use Rattle.numbers.proofs.Every.{all_at}
use Rattle.numbers.proofs.Nan.{not_nan}
use Rattle.numbers.proofs.Ways.{or_none}
use Rattle.refusal.specs.Refusal.{first, number, Verdict}
use Rattle.refusal.specs.declared.Refusal.{Refusal}
use Rattle.refusal.proofs.First.{passed}
use Rattle.table.specs.Check.{all_finite, rising}
use Rattle.table.specs.Sound.{Room}
use Rattle.table.specs.Table.{at}
use Rattle.query.specs.Query.{curve_tests, covered_of, answer_by}

-- knots that pass the tests of a query, and records that reach for them
pub record Reaches (x : List Float) (tags slots : ℕ) : Type 0 where
  pub low : 2 ≤ length x
  pub numbers : all_finite x ≡ true
  pub up : rising x ≡ true
  pub room : Room (length x) (length x) tags slots

-- a curve that passed its tests
pub reached : (x : List Float) (tags slots : ℕ) → first (curve_tests x tags slots) ≡ Ok tt → Reaches x tags slots
reached x tags slots h =
    let n = length x in
    let (low, (numbers, (up, (high, (enough, _))))) = passed (curve_tests x tags slots) h in
    let (in_tags, in_slots) = or_none (ltb tags (n - 1)) (ltb slots (slot_count * (n - 1))) enough in
    record {
      low = ltb-false n 2 low;
      numbers = not-false (all_finite x) numbers;
      up = not-false (rising x) up;
      room = record { high = ltb-false 4096 n high; in_nodes = le_refl n; in_tags = ltb-false tags (n - 1) in_tags; in_slots = ltb-false slots (slot_count * (n - 1)) in_slots };
    }

pub found_here : (v : Verdict) (s : Section) (f : Option Section) → v ≡ Ok tt → f ≡ Some s → Ok s ≡ covered_of v f
found_here v s f e g = rw (e, g)

-- an answer in numbers, by what refuses it
pub told_number : (v w : Verdict) (n m : Float) → v ≡ w → v ≡ Ok tt → n ≡ m → record { refusal = 0; answer = n } ≡ answer_by w m
told_number v w n m e f g = rw (sym e ∙ f, g)

pub told_refusal : (v w : Verdict) (r : Refusal) (n : ℕ) (m : Float) → v ≡ w → v ≡ Err r → n ≡ number r → record { refusal = n; answer = zero } ≡ answer_by w m
told_refusal v w r n m e f g = rw (sym e ∙ f, g)

-- the first knot is a number
pub first_number : {x : List Float} {tags slots : ℕ} → Reaches x tags slots → ne (at x 0) (at x 0) ≡ false
unfolding all_finite
first_number {x} r = not_nan (at x 0) (all_at (length x) (λ k. finite (at x k)) r.numbers 0 (omega (arith, r.low)))

-- The tests of a table pass exactly when it is sound, and those of sizes exactly when there is room.
use Rattle.std.specs.Prelude.{Ok}
use Prim.Native.Nat.{ℕ, ◌-◌, ◌*◌}
use mathlib.Core.Bool.{false, ◌||◌}
use mathlib.Core.List.{List}
use mathlib.Core.Path.{◌≡◌}
use borrow.Author.Tests.{ltb-false, le-ltb, eqb-true, eq-eqb, not-false}
use lib.Dec.{ltb}
use lib.Ieee.{Float}
use lib.ListN.{length}
use Rattle.numbers.specs.Sizes.{slot_count}
use Rattle.numbers.proofs.Ways.{or_none}
use Rattle.refusal.specs.Refusal.{first}
use Rattle.refusal.proofs.First.{passed}
use Rattle.table.specs.Check.{table_tests, average_below, room_tests}
use Rattle.table.specs.Sound.{Sound, Room}
use Rattle.table.specs.declared.method.ConvexMonotone.{ConvexMonotone}

module _ (x y : List Float) (method : ConvexMonotone) where
  pub sound : first (table_tests x y method) ≡ Ok tt → average_below y method ≡ false → Sound x y method
  sound h signs =
      let (same, (monotonicity, (quadraticity, (low, (knots, (averages, (rise, _))))))) = passed (table_tests x y method) h in
      record {
        same = eqb-true _ _ (not-false _ same);
        monotonicity = not-false _ monotonicity;
        quadraticity = not-false _ quadraticity;
        low = ltb-false _ _ low;
        knots = not-false _ knots;
        averages = not-false _ averages;
        rise = not-false _ rise;
        signs = signs;
      }

  pub is_sound : Sound x y method → first (table_tests x y method) ≡ Ok tt
  is_sound s =
      rw (
        eq-eqb (length x) (length y) s.same,
        s.monotonicity,
        s.quadraticity,
        le-ltb (length x) 2 s.low,
        s.knots,
        s.averages,
        s.rise,
      )

module _ (n nodes tags slots : ℕ) where
  pub room : first (room_tests n nodes tags slots) ≡ Ok tt → Room n nodes tags slots
  room h =
      let (high, (enough, _)) = passed (room_tests n nodes tags slots) h in
      let (in_nodes, others) = or_none (ltb nodes n) (ltb tags (n - 1) || ltb slots (slot_count * (n - 1))) enough in
      let (in_tags, in_slots) = or_none (ltb tags (n - 1)) (ltb slots (slot_count * (n - 1))) others in
      record {
        high = ltb-false _ _ high;
        in_nodes = ltb-false _ _ in_nodes;
        in_tags = ltb-false _ _ in_tags;
        in_slots = ltb-false _ _ in_slots;
      }

  pub has_room : Room n nodes tags slots → first (room_tests n nodes tags slots) ≡ Ok tt
  has_room r =
      rw (
        le-ltb 4096 n r.high,
        le-ltb nodes n r.in_nodes,
        le-ltb tags (n - 1) r.in_tags,
        le-ltb slots (slot_count * (n - 1)) r.in_slots,
      )

-- By what is wanted, of the slots from slot_count times its place on.
use Prim.Native.Nat.{◌*◌}
use native.Mathlib.Nat.{add-sub_cancel_left}
use Rattle.numbers.specs.Sizes.{slot_count}
use Rattle.query.proofs.number.record_number.Goals as goal

pub returns-in-Total : goal.returns-in-Total
returns-in-Total c =
    rw c.in-Total.is
    (rw (add-sub_cancel_left (slot_count * c.args.i) slot_count) at c.primitive_in.ensures)

pub returns-in-Price : goal.returns-in-Price
returns-in-Price c =
    rw c.in-Price.is
    (rw (add-sub_cancel_left (slot_count * c.args.i) slot_count) at c.value_in.ensures)

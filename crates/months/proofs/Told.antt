-- What `month_knots` answers and leaves, by the answer about the periods.
use Rattle.std.specs.Prelude.{Err, Ok}
use Prim.Native.Nat.{◌≤◌, ◌<◌}
use mathlib.Core.List.{List}
use mathlib.Core.Path.{◌≡◌, subst}
use lib.Ieee.{Float}
use lib.IntN.{ℤ}
use lib.ListN.{length}
use borrow.Author.Tests.{lt-ltb, le-ltb}
use Rattle.numbers.specs.OneOutcome.{pair}
use Rattle.numbers.specs.Overlay.{overlay}
use Rattle.refusal.specs.declared.Refusal.{Refusal}
use Rattle.refusal.specs.declared.Refusal.TheVariants.{BufferTooShort}
use Rattle.months.specs.Knots.{knot_at, knots_made}
use Rattle.months.specs.Periods.{periods_of}
use Rattle.months.specs.declared.periods.Size.{Size}
use Rattle.months.specs.declared.periods.Periods.{Periods}
use Rattle.months.proofs.Whole.{was_whole, was_refused}

module _ (from to : ℤ) (size : Size) (old : List Float) where
  pub not_periods_lem : (r : Refusal) → periods_of from to size ≡ Err r → pair (Err r) old ≡ knots_made from to size old
  not_periods_lem r e = let (none, is) = was_refused from to size r e in rw (none, is)

  module _ (p : Periods) (e : periods_of from to size ≡ Ok p) where
    pub no_room_lem : length old < p.knots → pair (Err BufferTooShort) old ≡ knots_made from to size old
    no_room_lem h =
        let (whole, is) = was_whole from to size p e in
        let short = lt-ltb _ _ (subst (λ (q : Periods). length old < q.knots) is h) in
        rw (whole, short)

    pub made : (new : List Float) → p.knots ≤ length old → new ≡ overlay 0 p.knots (knot_at p) old → pair (Ok p.knots) new ≡ knots_made from to size old
    made new h f =
        let (whole, is) = was_whole from to size p e in
        let room = le-ltb _ _ (subst (λ (q : Periods). q.knots ≤ length old) is h) in
        rw (whole, room, f, is)

-- Build or grow, then ask: the price of a curve is the definition's price of the section that the query's place has.
use Rattle.std.specs.Prelude.{Err, Ok, Option}
use Prim.Native.Nat.{◌-◌}
use mathlib.Core.Bool.{Bool, false}
use mathlib.Core.List.{List}
use mathlib.Core.Path.{◌≡◌, refl, ap, ◌∙◌}
use lib.Ieee.{Float, ne}
use lib.ListN.{length}
use Rattle.numbers.specs.Marks.{mark}
use Rattle.section.specs.declared.section.Section.{Section}
use Rattle.table.specs.Buffers.{Buffers, Outcome}
use Rattle.table.specs.declared.method.ConvexMonotone.{ConvexMonotone}
use Rattle.table.specs.declared.ends.Frame.{Frame}
use Rattle.table.specs.declared.ends.Seam.{Seam}
use Rattle.table.proofs.Outcomes.{left_new}
use Rattle.assembly.specs.Making.{after}
use Rattle.assembly.specs.Sections.{tail_of}
use Rattle.curve.specs.Build.{build_verdict, whole_frame, curve_of, build_outcome}
use Rattle.curve.specs.Curve.{with_extrapolation, Built}
use Rattle.curve.specs.declared.curve.Curve.{Curve}
use Rattle.growth.specs.Growth.{grown, Carried}
use Rattle.query.specs.Query.{outside, covered_at, ask, QueryAnswer}
use Rattle.query.proofs.ReadBack.{answering, asked_of_built}

module _ (x y : List Float) (method : ConvexMonotone) (hold : Bool) (seam : Option Seam) (b : Buffers) (accepted : build_verdict x y method seam b ≡ Ok tt) where
  abbrev pub frame : Frame
  frame = whole_frame (length x) method hold seam

  abbrev pub curve : Curve
  curve = record { sections = length x - 1; held = hold; extrapolates = false; tail = tail_of x y frame }

  -- an accepted build answers the curve and leaves its nodes and records
  pub built_curve : build_outcome x y method hold seam b ≡ record { answer = Ok curve; buffers = after 0 x y frame b }
  unfolding curve_of
  built_curve = left_new (build_verdict x y method seam b) Err b _ (build_outcome x y method hold seam b) refl accepted

  -- what is asked of it, with queries outside the knots allowed or not
  abbrev asked : (Section → Float) → Bool → Float → Outcome Built → QueryAnswer
  asked f allow q o = ask f (covered_at x (with_extrapolation curve allow) o.buffers.tags o.buffers.slots q)

  pub built_asked : (f : Section → Float) (allow : Bool) (q : Float) → ne q q ≡ false → outside x (with_extrapolation curve allow) q ≡ false →
      asked f allow q (build_outcome x y method hold seam b) ≡ Ok (mark (f (answering x y frame (with_extrapolation curve allow) q)))
  built_asked f allow q n o = ap (asked f allow q) built_curve ∙ asked_of_built x y frame method seam b (with_extrapolation curve allow) q accepted n o f

  -- a grown curve is built with the seam that it carries
  pub grown_curve : (k : Carried) → k ≡ Ok seam →
      grown k b (λ s. build_outcome x y method hold s b) ≡ record { answer = Ok curve; buffers = after 0 x y frame b }
  grown_curve k g = ap (λ (c : Carried). grown c b (λ s. build_outcome x y method hold s b)) g ∙ built_curve

  pub grown_asked : (k : Carried) (f : Section → Float) (allow : Bool) (q : Float) → k ≡ Ok seam → ne q q ≡ false → outside x (with_extrapolation curve allow) q ≡ false →
      asked f allow q (grown k b (λ s. build_outcome x y method hold s b)) ≡ Ok (mark (f (answering x y frame (with_extrapolation curve allow) q)))
  grown_asked k f allow q g n o = ap (asked f allow q) (grown_curve k g) ∙ asked_of_built x y frame method seam b (with_extrapolation curve allow) q accepted n o f

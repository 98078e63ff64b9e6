-- The parabolas start from the total that they were handed: at their own left knot, where the place is a zero, the running total is that one.
-- For nodes within 2 ^ 152, an average within 2 ^ 150 and a length within 2 ^ 400; the Min kind by any of the three rules, where it is not split, or the knot lies
-- before the zero stretch and the ratio is of ordinary size, since that ratio also bounds the average at which the parabola touches zero.
use mathlib.Core.Bool.{Bool, true, false, cond, ◌&&◌}
use mathlib.Core.Path.{◌≡◌}
use lib.Dec.{lit<}
use lib.Ieee.{Float, le, lt}
use Rattle.numbers.specs.Words.{◌⊖◌, ◌⊘◌, narrow, ordinary_ratio}
use Rattle.numbers.proofs.Ways.{not_not, of_both}
use Rattle.numbers.proofs.Every.{and_split}
use Rattle.numbers.proofs.Bounds.{Within, wider, sum_within, product_within, quotient_within}
use Rattle.numbers.proofs.Low.{divisor_within}
use Rattle.numbers.proofs.Ratios.{two_low, three_low, ordinary_within, ordinary_low}
use Rattle.numbers.proofs.Zeros.{Zero, zero_small, product_zero, quotient_zero}
use Rattle.numbers.proofs.Totals.{Total, AtLeft, total_stays}
use Rattle.quadratic.specs.Parabola.{a_of, b_of, under}
use Rattle.quadratic.specs.Quadratic as quadratic
use Rattle.quadratic.specs.QuadraticMin as quadmin
use Rattle.quadratic.specs.declared.quadratic_min.QuadraticMin.{QuadraticMin}
use Rattle.quadratic.proofs.Finite.{a_within, b_within}

-- a parabola with these ends and this average, at a place that is a zero
at_zero_lem : {total scaling F G t v : Float} → Total total → Within 460 scaling → Within 152 F → Within 152 G → Within 211 t → Zero v
    → under total scaling (a_of F G t) (b_of F G t) F v ≡ total
at_zero_lem kept ws wF wG wt z =
    let wz = zero_small z in
    let squared = product_within (product_within (quotient_within (a_within wF wG wt (wider wz tt)) three_low tt) wz tt) wz tt in
    let single = product_within (quotient_within (b_within wF wG wt (wider wz tt)) two_low tt) wz tt in
    total_stays kept (product_zero (product_within ws (sum_within (sum_within squared single tt) wF tt) tt) z)

-- a section from x0 to x1, at x0
module _ {x0 x1 y total : Float} (wy : Within 150 y) (here : AtLeft x0 x1 total) where
  under_starts : {F G : Float} → Within 152 F → Within 152 G → under total (x1 ⊖ x0) (a_of F G y) (b_of F G y) F ((x0 ⊖ x0) ⊘ (x1 ⊖ x0)) ≡ total
  under_starts wF wG = at_zero_lem here.total (wider here.length tt) wF wG (wider wy tt) here.place

  module _ {F G : Float} (wF : Within 152 F) (wG : Within 152 G) where
    pub plain_starts : quadratic.primitive (quadratic.new x0 x1 F G y total) x0 ≡ total
    plain_starts = under_starts wF wG

    -- the Min kind, where it is not split, or split in the usual way
    abbrev Starts : QuadraticMin → Type 0
    Starts s = quadmin.unusual s x0 ≡ false → quadmin.primitive s x0 ≡ total

    whole_starts : Starts (quadmin.unsplit x0 x1 F G y total)
    unfolding quadmin.primitive
    whole_starts h = under_starts wF wG

    level_starts : Starts (quadmin.level x0 x1 y total)
    unfolding quadmin.primitive
    level_starts h = under_starts (wider wy tt) (wider wy tt)

    -- the ratio is the average over the touching one
    split_starts : (touching : Float) → Starts (quadmin.split x0 x1 F G y total touching)
    unfolding quadmin.primitive quadmin.split
    split_starts touching h =
        let s = quadmin.split x0 x1 F G y total touching in
        let usual = and_split (lt x0 s.x2) (ordinary_ratio (y ⊘ touching)) (not_not _ h) in
        let low = ordinary_low (y ⊘ touching) usual.1 in
        let scaling = product_within here.length (ordinary_within (y ⊘ touching) usual.1) tt in
        rw usual.0 (at_zero_lem here.total scaling wF wG (divisor_within touching wy low (lit< tt)) (quotient_zero here.place low))

    -- split or not
    either_starts : (touching : Float) (whole : QuadraticMin) (b : Bool) → Starts whole → Starts (cond b (quadmin.split x0 x1 F G y total touching) whole)
    either_starts touching whole true h = split_starts touching
    either_starts touching whole false h = h

    pub new_starts : Starts (quadmin.new x0 x1 F G y total)
    unfolding quadmin.new
    new_starts = either_starts (quadmin.av_root F G) _ (quadmin.splits F G y) whole_starts

    pub careful_starts : Starts (quadmin.careful x0 x1 F G y total)
    unfolding quadmin.careful
    careful_starts = either_starts (quadmin.av_root F G) _ (quadmin.splits F G y && quadmin.in_period (y ⊘ quadmin.av_root F G)) whole_starts

    pub safe_starts : Starts (quadmin.safe x0 x1 F G y total)
    unfolding quadmin.safe
    safe_starts =
        let ratio = y ⊘ quadmin.touching F G in
        of_both Starts (quadmin.splits_safely F G y) _ _
        (either_starts (quadmin.touching F G) _ (quadmin.in_sight ratio) (of_both Starts (le ratio narrow) _ _ level_starts whole_starts))
        whole_starts

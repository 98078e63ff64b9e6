-- Tags: how large they get.
use Prim.Native.Nat.{ℕ, ◌+◌, ◌^◌, ◌<◌}
use native.Mathlib.Omega.{arith}
use mathlib.Core.Bool.{Bool, true, false, cond}
use mathlib.Core.Path.{◌≡◌}
use lib.Dec.{lit≤}
use Rattle.section.specs.declared.quadratic_part.QuadraticPart.{QuadraticPart}
use Rattle.section.specs.declared.quadratic_part.QuadraticPart.TheVariants as quadratic
use Rattle.section.specs.declared.convex_monotone_part.ConvexMonotonePart.{ConvexMonotonePart}
use Rattle.section.specs.declared.convex_monotone_part.ConvexMonotonePart.TheVariants as convex
use Rattle.record.specs.Tag.{quadratic_tag, convex_tag}

cond_lt : (b : Bool) {m n k : ℕ} → m < k → n < k → cond b m n < k
cond_lt true h l = h
cond_lt false h l = l

-- 3 bits of code and one of split, from bit 12 on; then 4 and one, from bit 7 on
pub quadratic_tag_lt : (p : QuadraticPart) → quadratic_tag p < 2 ^ 15
unfolding quadratic_tag
quadratic_tag_lt (quadratic.Quadratic s) = lit≤ tt
quadratic_tag_lt (quadratic.QuadraticMin s) = cond_lt s.split_region (lit≤ tt) (lit≤ tt)

pub convex_tag_lt : (p : ConvexMonotonePart) → convex_tag p < 2 ^ 12
unfolding convex_tag
convex_tag_lt (convex.ConvexMonotone2 s) = lit≤ tt
convex_tag_lt (convex.ConvexMonotone3 s) = lit≤ tt
convex_tag_lt (convex.ConvexMonotone4 s) = lit≤ tt
convex_tag_lt (convex.ConvexMonotone4Min s) = cond_lt s.split_region (lit≤ tt) (lit≤ tt)

pub tags_fit : {a b : ℕ} (p : QuadraticPart) (q : ConvexMonotonePart) → a ≡ quadratic_tag p → b ≡ convex_tag q → a + b < 2 ^ 16
tags_fit p q e f = omega (arith, quadratic_tag_lt p, convex_tag_lt q)

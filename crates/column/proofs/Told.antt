-- What a section's record tells by itself: whether a split of it is unusual. Where no part is split, none is.
use Prim.Native.Nat.{ℕ, ◌+◌}
use mathlib.Core.Bool.{Bool, true, false, cond, not, ◌&&◌, ◌||◌}
use mathlib.Core.List.{List}
use mathlib.Core.Path.{◌≡◌, refl}
use lib.Dec.{ltb}
use lib.Ieee.{Float, lt, le}
use lib.ListN.{length}
use Rattle.numbers.specs.Sizes.{field_count}
use Rattle.numbers.specs.Words.{ordinary_ratio}
use Rattle.numbers.proofs.Ways.{or_none}
use Rattle.section.specs.declared.quadratic_part.QuadraticPart.{QuadraticPart}
use Rattle.section.specs.declared.quadratic_part.QuadraticPart.TheVariants as quadratic
use Rattle.section.specs.declared.convex_monotone_part.ConvexMonotonePart.{ConvexMonotonePart}
use Rattle.section.specs.declared.convex_monotone_part.ConvexMonotonePart.TheVariants as convex
use Rattle.section.specs.declared.section.Section.{Section}
use Rattle.section.specs.declared.section.Section.TheVariants as section
use Rattle.record.specs.Slots.{slots_of, quadratic_slots, convex_slots, record_of}
use Rattle.record.specs.Tag.{quadratic_bits, other_bits, quadratic_tag, convex_tag, tag_of, quadratic_split_tag, other_split_tag, split_tag}
use Rattle.record.specs.Unusual.{unusual_split}
use Rattle.record.specs.declared.tag.QuadraticKind.TheVariants as quadratic_kind
use Rattle.record.specs.declared.tag.OtherKind.TheVariants as other_kind
use Rattle.choice.specs.Starts.{quadratic_unusual, convex_unusual, unusual_in}

pub usual_whole : (tag : ℕ) (s : List Float) (x : Float) → split_tag tag ≡ false → unusual_split tag s x ≡ false
unfolding unusual_split
usual_whole tag s x h = let n = or_none (quadratic_split_tag tag) (other_split_tag tag) h in rw (n.0, n.1) (short (ltb (length s) field_count))
  where
    short : (b : Bool) → cond b false false ≡ false
    short true = refl
    short false = refl

-- what holds of both bits holds of each
of_bit : (P : Bool → Type 0) → P true → P false → (b : Bool) → P b
of_bit P p q true = p
of_bit P p q false = q

or_nothing : (b : Bool) → b || false ≡ b
or_nothing true = refl
or_nothing false = refl

-- the two Min kinds, by their split bits
abbrev quadratic_min_tag : Bool → ℕ
quadratic_min_tag b = cond b (quadratic_bits quadratic_kind.QuadraticMinSplit) (quadratic_bits quadratic_kind.QuadraticMin)

abbrev convex_min_tag : Bool → ℕ
convex_min_tag b = cond b (other_bits other_kind.ConvexMonotone4MinSplit) (other_bits other_kind.ConvexMonotone4Min)

-- a record's numbers after its section's own, and the place that is asked about
module _ (left right total x : Float) where
  abbrev tells : Section → ℕ → Bool
  tells s tag = unusual_split tag (record_of s left right total) x

  two_parts : (p : QuadraticPart) (c : ConvexMonotonePart) (w : Float) →
      tells (section.Combination (record { quadraticity = w; quadratic_helper = p; conv_mono_helper = c })) (quadratic_tag p + convex_tag c) ≡ (quadratic_unusual x p || convex_unusual x c)
  unfolding quadratic_tag convex_tag record_of slots_of quadratic_slots convex_slots unusual_split
  two_parts (quadratic.Quadratic s) (convex.ConvexMonotone2 t) w = refl
  two_parts (quadratic.Quadratic s) (convex.ConvexMonotone3 t) w = refl
  two_parts (quadratic.Quadratic s) (convex.ConvexMonotone4 t) w = refl
  two_parts (quadratic.Quadratic s) (convex.ConvexMonotone4Min t) w =
      let k = section.Combination (record { quadraticity = w; quadratic_helper = quadratic.Quadratic s; conv_mono_helper = convex.ConvexMonotone4Min t }) in
      of_bit (λ b. tells k (quadratic_bits quadratic_kind.Quadratic + convex_min_tag b) ≡ (b && not (le x t.x2 && ordinary_ratio t.x_ratio))) refl refl t.split_region
  two_parts (quadratic.QuadraticMin s) (convex.ConvexMonotone2 t) w =
      let k = section.Combination (record { quadraticity = w; quadratic_helper = quadratic.QuadraticMin s; conv_mono_helper = convex.ConvexMonotone2 t }) in
      of_bit (λ b. tells k (quadratic_min_tag b + other_bits other_kind.ConvexMonotone2) ≡ ((b && not (lt x s.x2 && ordinary_ratio s.x_ratio)) || false)) refl refl s.split_region
  two_parts (quadratic.QuadraticMin s) (convex.ConvexMonotone3 t) w =
      let k = section.Combination (record { quadraticity = w; quadratic_helper = quadratic.QuadraticMin s; conv_mono_helper = convex.ConvexMonotone3 t }) in
      of_bit (λ b. tells k (quadratic_min_tag b + other_bits other_kind.ConvexMonotone3) ≡ ((b && not (lt x s.x2 && ordinary_ratio s.x_ratio)) || false)) refl refl s.split_region
  two_parts (quadratic.QuadraticMin s) (convex.ConvexMonotone4 t) w =
      let k = section.Combination (record { quadraticity = w; quadratic_helper = quadratic.QuadraticMin s; conv_mono_helper = convex.ConvexMonotone4 t }) in
      of_bit (λ b. tells k (quadratic_min_tag b + other_bits other_kind.ConvexMonotone4) ≡ ((b && not (lt x s.x2 && ordinary_ratio s.x_ratio)) || false)) refl refl s.split_region
  two_parts (quadratic.QuadraticMin s) (convex.ConvexMonotone4Min t) w =
      let k = section.Combination (record { quadraticity = w; quadratic_helper = quadratic.QuadraticMin s; conv_mono_helper = convex.ConvexMonotone4Min t }) in
      let p = not (lt x s.x2 && ordinary_ratio s.x_ratio) in
      let o = not (le x t.x2 && ordinary_ratio t.x_ratio) in
      of_bit (λ b. tells k (quadratic_min_tag b + convex_min_tag t.split_region) ≡ ((b && p) || (t.split_region && o)))
      (of_bit (λ d. tells k (quadratic_min_tag true + convex_min_tag d) ≡ (p || (d && o))) refl refl t.split_region)
      (of_bit (λ d. tells k (quadratic_min_tag false + convex_min_tag d) ≡ (d && o)) refl refl t.split_region)
      s.split_region

  pub told : (s : Section) → tells s (tag_of s) ≡ unusual_in x s
  unfolding tag_of record_of slots_of quadratic_slots convex_slots unusual_split
  told (section.EverywhereConstant s) = refl
  told (section.ConstantGrad s) = refl
  told (section.ConvexMonotone2 s) = refl
  told (section.ConvexMonotone3 s) = refl
  told (section.ConvexMonotone4 s) = refl
  told (section.ConvexMonotone4Min s) =
      of_bit (λ b. tells (section.ConvexMonotone4Min s) (convex_min_tag b) ≡ (b && not (le x s.x2 && ordinary_ratio s.x_ratio))) refl refl s.split_region
  told (section.Quadratic s) = refl
  told (section.QuadraticMin s) =
      of_bit (λ b. tells (section.QuadraticMin s) (quadratic_min_tag b) ≡ (b && not (lt x s.x2 && ordinary_ratio s.x_ratio))) (or_nothing _) refl s.split_region
  told (section.Combination s) = two_parts s.quadratic_helper s.conv_mono_helper s.quadraticity

-- What the definitions say, as laws over all numbers: NaN, infinities and both zeros included.
use mathlib.Core.Bool.{Bool, true, false, ◌||◌}
use mathlib.Core.Path.{◌≡◌, refl}
use lib.Ieee.{Float, le, lt}
use Rattle.numbers.specs.Words.{◌⊕◌, ◌⊖◌, ◌⊗◌, ◌⊘◌, zero}
use Rattle.quadratic.specs.declared.quadratic_min.QuadraticMin.{QuadraticMin}
use Rattle.quadratic.specs.Quadratic as quadratic
use Rattle.quadratic.specs.QuadraticMin as quadmin

-- A parabola that is not split is its polynomial.
module _ (s : QuadraticMin) (whole : s.split_region ≡ false) (x : Float) where
  pub quadmin_whole_value : let v = (x ⊖ s.x1) ⊘ (s.x4 ⊖ s.x1) in quadmin.value s x ≡ s.c ⊕ s.b ⊗ v ⊕ s.a ⊗ v ⊗ v
  unfolding quadmin.value
  quadmin_whole_value = rw whole

  pub quadmin_whole_primitive : quadmin.primitive s x ≡ quadmin.primitive_at s ((x ⊖ s.x1) ⊘ (s.x4 ⊖ s.x1))
  unfolding quadmin.primitive
  quadmin_whole_primitive = rw whole

-- Built whole, it accumulates as the plain parabola does. Its value need not be the same bit for bit: the two kinds add the terms in opposite orders.
pub quadmin_built_whole : (x0 x1 f0 f1 average total x : Float) → quadmin.splits f0 f1 average ≡ false →
    quadmin.primitive (quadmin.new x0 x1 f0 f1 average total) x ≡ quadratic.primitive (quadratic.new x0 x1 f0 f1 average total) x
unfolding quadmin.new quadmin.primitive
quadmin_built_whole x0 x1 f0 f1 average total x whole = rw whole

first_false : (a b : Bool) → (a || b) ≡ false → a ≡ false
first_false true b h = h
first_false false b h = refl

not_le_not_lt : (x y : Float) → le x y ≡ false → lt x y ≡ false
unfolding le
not_le_not_lt x y h = first_false _ _ h

module _ (s : QuadraticMin) (split : s.split_region ≡ true) (x : Float) (past : le x s.x2 ≡ false) (before : lt x s.x3 ≡ true) where
  pub quadmin_zero_value : quadmin.value s x ≡ zero
  unfolding quadmin.value
  quadmin_zero_value = rw (split, past, before)

  pub quadmin_zero_primitive : quadmin.primitive s x ≡ s.primitive2
  unfolding quadmin.primitive
  quadmin_zero_primitive = rw (split, not_le_not_lt x s.x2 past, before)

module _ (s : QuadraticMin) (split : s.split_region ≡ true) (x : Float) (at : le x s.x2 ≡ true) (reached : lt x s.x2 ≡ false) (before : lt x s.x3 ≡ true) where
  pub quadmin_edge_value : quadmin.value s x ≡ quadmin.value_at s (quadmin.before s x)
  unfolding quadmin.value
  quadmin_edge_value = rw (split, at)

  pub quadmin_edge_primitive : quadmin.primitive s x ≡ s.primitive2
  unfolding quadmin.primitive
  quadmin_edge_primitive = rw (split, reached, before)

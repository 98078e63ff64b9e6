-- 02, K3: the careful split beside the original's. It only ever splits less: its record is the original's, or the one that is not split.
use mathlib.Core.Bool.{Bool, true, false, cond, ◌&&◌}
use mathlib.Core.Logic.{◌⊎◌, inl, inr, ⊎_elim}
use mathlib.Core.Path.{◌≡◌, refl, sym, ◌∙◌}
use lib.Ieee.{Float}
use Rattle.numbers.specs.Words.{◌⊘◌}
use Rattle.numbers.specs.OneOutcome.{Follows}
use Rattle.numbers.proofs.Ways.{of_both}
use Rattle.quadratic.specs.declared.quadratic_min.QuadraticMin.{QuadraticMin}
use Rattle.quadratic.specs.QuadraticMin as quadmin
use Rattle.quadratic.proofs.quadratic_min.QuadraticMin.new.Reads as new
use Rattle.quadratic.proofs.quadratic_min.QuadraticMin.careful.Reads as careful

-- of one test and a second, where the first decides or the second does
first_left : {A : Type 0} (a b : Bool) (x y : A) → a ≡ false → cond (a && b) x y ≡ cond a x y
first_left a b x y h = rw h

second_taken : {A : Type 0} (a b : Bool) (x y : A) → b ≡ true → cond (a && b) x y ≡ cond a x y
second_taken true b x y h = rw h
second_taken false b x y h = refl

second_left : {A : Type 0} (a b : Bool) (x y : A) → b ≡ false → cond (a && b) x y ≡ y
second_left true b x y h = rw h
second_left false b x y h = refl

pub tested : (b : Bool) → (b ≡ true) ⊎ (b ≡ false)
tested true = inl refl
tested false = inr refl

module _ (x0 x1 f0 f1 average total : Float) where
  abbrev original : QuadraticMin
  original = quadmin.new x0 x1 f0 f1 average total

  abbrev carefully : QuadraticMin
  carefully = quadmin.careful x0 x1 f0 f1 average total

  abbrev whole : QuadraticMin
  whole = quadmin.unsplit x0 x1 f0 f1 average total

  abbrev ratio : Float
  ratio = average ⊘ quadmin.av_root f0 f1

  -- the two modes agree where the original does not split, and where its ratio is above 0 and at most 1
  pub agree_unsplit : quadmin.splits f0 f1 average ≡ false → carefully ≡ original
  unfolding quadmin.careful quadmin.new
  agree_unsplit h = first_left (quadmin.splits f0 f1 average) (quadmin.in_period ratio) _ _ h

  pub agree_in_period : quadmin.in_period ratio ≡ true → carefully ≡ original
  unfolding quadmin.careful quadmin.new
  agree_in_period h = second_taken (quadmin.splits f0 f1 average) (quadmin.in_period ratio) _ _ h

  -- with any other ratio the parabola stays whole
  pub whole_elsewhere : quadmin.in_period ratio ≡ false → carefully ≡ whole
  unfolding quadmin.careful
  whole_elsewhere h = second_left (quadmin.splits f0 f1 average) (quadmin.in_period ratio) _ _ h

  pub either_record : (carefully ≡ original) ⊎ (carefully ≡ whole)
  either_record = ⊎_elim (λ h. inl (agree_in_period h)) (λ h. inr (whole_elsewhere h)) (tested (quadmin.in_period ratio))

  -- either way it ends on the same node, which is all that growth reads of it
  pub same_end : quadmin.f_next carefully ≡ quadmin.f_next original
  unfolding quadmin.careful quadmin.new quadmin.split
  same_end =
      of_both (λ (s : QuadraticMin). s.f_next ≡ f1) (quadmin.splits f0 f1 average && quadmin.in_period ratio) _ _ refl refl
      ∙ sym (of_both (λ (s : QuadraticMin). s.f_next ≡ f1) (quadmin.splits f0 f1 average) _ _ refl refl)

-- Of the two functions themselves, called with the same numbers.
pub returned_either : Follows careful.Post (λ κ a r s.
    (o : QuadraticMin) → new.Post κ a o s → let (x0, (x1, (f0, (f1, (average, (total, _)))))) = a in (r ≡ o) ⊎ (r ≡ quadmin.unsplit x0 x1 f0 f1 average total))
returned_either κ a r s allowed o original-allowed =
    let (x0, (x1, (f0, (f1, (average, (total, _)))))) = a in
    ⊎_elim (λ e. inl (allowed ∙ e ∙ sym original-allowed)) (λ e. inr (allowed ∙ e)) (either_record x0 x1 f0 f1 average total)

-- 02, K1. A strip by its parts: what refuses it, and its number where nothing does.
use Rattle.std.specs.Prelude.{Err, Ok}
use Prim.Native.Nat.{ℕ, ◌<◌}
use mathlib.Core.Bool.{Bool, true, false, cond}
use mathlib.Core.List.{List}
use mathlib.Core.Path.{◌≡◌, refl, sym, ap, ◌∙◌}
use lib.Ieee.{Float, lt}
use lib.ListN.{length}
use Rattle.numbers.specs.Marks.{mark}
use Rattle.numbers.specs.declared.Marked.{Marked}
use Rattle.numbers.specs.Words.{◌⊖◌, ◌⊘◌}
use Rattle.numbers.proofs.Overlay.{overlay_same}
use Rattle.numbers.proofs.Ways.{never}
use Rattle.section.specs.Section.{primitive}
use Rattle.refusal.specs.Refusal.{first, and_then, Verdict}
use Rattle.refusal.specs.declared.Refusal.{Refusal}
use Rattle.refusal.specs.declared.Refusal.TheVariants.{StripEndsNotRising}
use Rattle.refusal.proofs.First.{first_append}
use Rattle.curve.specs.declared.curve.Curve.{Curve}
use Rattle.query.specs.Many.{or_next, many_tests, of_all, formula_at, many_by, ManyAnswer}
use Rattle.query.specs.Query.{curve_tests, point_tests, covering, covered_of, covered_at, ask, number_in, verdict_in, Covered, QueryAnswer}
use Rattle.query.specs.Strip.{strip_of, total_to, strip_at, strips_verdict, strips_after, strips_outcome}
use Rattle.query.proofs.Covering.{is_number, refused_same}

abbrev accepts : Verdict → Bool
accepts (Ok tt) = true
accepts (Err r) = false

-- what follows where nothing refuses a strip: both ends got numbers, and its own is their difference over the length
abbrev Parts : Float → Float → QueryAnswer → QueryAnswer → QueryAnswer → Type 0
Parts a b p q strip = (is_number p ≡ true) × (is_number q ≡ true) × (number_in strip ≡ (number_in q ⊖ number_in p) ⊘ (b ⊖ a))

in_order : (a b : Float) (p q : Marked) (l : Bool) →
    let strip = cond l (Ok (mark ((q.number ⊖ p.number) ⊘ (b ⊖ a)))) (Err StripEndsNotRising) in
    accepts (verdict_in strip) ≡ true → Parts a b (Ok p) (Ok q) strip
in_order a b p q true h = (refl, refl, refl)
in_order a b p q false h = never h refl

parts : (a b : Float) (p q : QueryAnswer) → accepts (verdict_in (strip_of a b p q)) ≡ true → Parts a b p q (strip_of a b p q)
parts a b (Err r) q h = never h refl
parts a b (Ok p) (Err r) h = never h refl
parts a b (Ok p) (Ok q) h = in_order a b p q (lt a b) h

module _ (x : List Float) (curve : Curve) (tags : List ℕ) (slots : List Float) (a b : Float) where
  module _ (taken : verdict_in (strip_at x curve tags slots a b) ≡ Ok tt) where
    pub by_parts : Parts a b (total_to x curve tags slots a) (total_to x curve tags slots b) (strip_at x curve tags slots a b)
    unfolding strip_at
    by_parts = parts a b (total_to x curve tags slots a) (total_to x curve tags slots b) (ap accepts taken)

    pub priced_so : (p q : Float) → p ≡ formula_at primitive x curve tags slots a → q ≡ formula_at primitive x curve tags slots b → (q ⊖ p) ⊘ (b ⊖ a) ≡ number_in (strip_at x curve tags slots a b)
    priced_so p q e f =
        ap (λ (r : Float). (r ⊖ p) ⊘ (b ⊖ a)) f ∙ ap (λ (r : Float). (formula_at primitive x curve tags slots b ⊖ r) ⊘ (b ⊖ a)) e ∙ sym by_parts.2

  -- by the totals up to its two ends
  pub by_totals : (p q r : QueryAnswer) → p ≡ total_to x curve tags slots a → q ≡ total_to x curve tags slots b → r ≡ strip_of a b p q → r ≡ strip_at x curve tags slots a b
  unfolding strip_at
  by_totals p q r e f h = h ∙ ap (λ (k : QueryAnswer). strip_of a b k q) e ∙ ap (strip_of a b (total_to x curve tags slots a)) f

  -- what refuses the curve refuses the strip
  pub curve_refused : (r : Refusal) → first (curve_tests x (length tags) (length slots)) ≡ Err r → Err r ≡ strip_at x curve tags slots a b
  unfolding strip_at
  curve_refused r h = sym (ap (λ (k : Covered). strip_of a b (ask (λ s. primitive s a) k) (total_to x curve tags slots b)) refused_here)
    where
      refused_here : covered_at x curve tags slots a ≡ Err r
      refused_here =
          ap (λ (v : Verdict). covered_of v (covering x curve tags slots a))
          (first_append (curve_tests x (length tags) (length slots)) (point_tests x curve a) ∙ ap (λ (v : Verdict). and_then v (first (point_tests x curve a))) h)

-- ---- many strips depend on their ends alone
pub same_ends : (x : List Float) (curve : Curve) (tags : List ℕ) (slots : List Float) (n m : ℕ) (from from' to to' : ℕ → Float) (out : List Float) → n ≡ m →
    ((k : ℕ) → k < m → (from k ≡ from' k) × (to k ≡ to' k)) → strips_outcome x curve tags slots n from to out ≡ strips_outcome x curve tags slots m from' to' out
same_ends x curve tags slots n m from from' to to' out e h =
    ap (λ (i : ℕ). strips_outcome x curve tags slots i from to out) e
    ∙ ap (λ (v : ManyAnswer). many_by (or_next (of_all (first (many_tests x (length tags) (length slots) m (length out)))) v) (strips_after x curve tags slots m from to out) out)
    (refused_same m _ _ (λ k l. ap verdict_in (each k l)))
    ∙ ap (λ (new : List Float). many_by (or_next (of_all (first (many_tests x (length tags) (length slots) m (length out)))) (strips_verdict x curve tags slots m from' to')) new out)
    (overlay_same 0 m _ _ out (λ k l. ap number_in (each k l)))
  where
    each : (k : ℕ) → k < m → strip_at x curve tags slots (from k) (to k) ≡ strip_at x curve tags slots (from' k) (to' k)
    each k l = ap (λ (a : Float). strip_at x curve tags slots a (to k)) (h k l).0 ∙ ap (strip_at x curve tags slots (from' k)) (h k l).1

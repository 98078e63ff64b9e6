-- What a query is answered, by what refuses its value and its primitive.
use Rattle.std.specs.Prelude.{Err, Ok}
use Prim.Native.Nat.{ℕ}
use mathlib.Core.Bool.{Bool, true, false, cond, ◌&&◌}
use mathlib.Core.List.{List}
use mathlib.Core.Path.{◌≡◌, refl, sym, ap, ◌∙◌}
use lib.Ieee.{Float, binary64, to_bits}
use Rattle.numbers.specs.Words.{finite}
use Rattle.section.specs.Section.{value, primitive}
use Rattle.section.specs.declared.section.Section.{Section}
use Rattle.refusal.specs.Refusal.{number, and_then, Verdict}
use Rattle.refusal.specs.declared.Refusal.{Refusal}
use Rattle.refusal.specs.declared.Refusal.TheVariants.{NotFinite}
use Rattle.curve.specs.declared.curve.Curve.{Curve}
use Rattle.query.specs.Query.{covered_at, ask, number_in, verdict_in, Covered, QueryAnswer}
use Rattle.order.specs.Answer.{refused_line, line_by, line_for, line_of}
use Rattle.order.specs.declared.asking.Line.{Line}

-- an answer's verdict is that of its definition
same_verdict : (asked k : QueryAnswer) (a b : Verdict) → asked ≡ k → a ≡ verdict_in asked → a ≡ b → verdict_in k ≡ b
same_verdict asked k a b e h g = ap verdict_in (sym e) ∙ sym h ∙ g

module _ (x : List Float) (c : Curve) (tags : List ℕ) (slots : List Float) (q : Float) where
  abbrev price : QueryAnswer
  price = ask (λ s. value s q) (covered_at x c tags slots q)

  abbrev total : QueryAnswer
  total = ask (λ s. primitive s q) (covered_at x c tags slots q)

  abbrev by : Verdict → Verdict → Line
  by a b = line_by (and_then a b) (number_in price) (number_in total)

  -- what refuses the value
  pub first_refused_lem : (v : QueryAnswer) (a : Verdict) (r : Refusal) (l : Line) → v ≡ price → a ≡ verdict_in v → a ≡ Err r → l ≡ refused_line r → l ≡ line_of x c tags slots q
  first_refused_lem v a r l e h g m = m ∙ sym (ap (λ (w : Verdict). by w (verdict_in total)) (same_verdict v price a (Err r) e h g))

  module _ (v p : QueryAnswer) (a b : Verdict) (e : v ≡ price) (d : p ≡ total) (h : a ≡ verdict_in v) (g : a ≡ Ok tt) (i : b ≡ verdict_in p) where
    after : line_of x c tags slots q ≡ by (Ok tt) (verdict_in total)
    after = ap (λ (w : Verdict). by w (verdict_in total)) (same_verdict v price a (Ok tt) e h g)

    -- a value that is accepted, and what refuses the primitive
    pub second_refused : (r : Refusal) (l : Line) → b ≡ Err r → l ≡ refused_line r → l ≡ line_of x c tags slots q
    second_refused r l j m = m ∙ sym (after ∙ ap (λ (w : Verdict). by (Ok tt) w) (same_verdict p total b (Err r) d i j))

    -- both are accepted
    pub both : (y z : Float) (m n : ℕ) → b ≡ Ok tt → y ≡ number_in v → z ≡ number_in p → m ≡ to_bits binary64 y → n ≡ to_bits binary64 z →
        record { refusal = 0; value = m; primitive = n } ≡ line_of x c tags slots q
    both y z m n j ey ez em en =
        rw (em, en, ey ∙ ap number_in e, ez ∙ ap number_in d) (sym (after ∙ ap (λ (w : Verdict). by (Ok tt) w) (same_verdict p total b (Ok tt) d i j)))

-- of a section that answers: 21 exactly where its value or its primitive is not finite
by_marks : (a b : Bool) (v p : Float) →
    (line_by (and_then (cond a (Ok tt) (Err NotFinite)) (cond b (Ok tt) (Err NotFinite))) v p).refusal ≡ cond (a && b) 0 (number NotFinite)
by_marks true true v p = refl
by_marks true false v p = refl
by_marks false b v p = refl

pub both_finite : (x : List Float) (c : Curve) (tags : List ℕ) (slots : List Float) (q : Float) (s : Section) → covered_at x c tags slots q ≡ Ok s →
    (line_of x c tags slots q).refusal ≡ cond (finite (value s q) && finite (primitive s q)) 0 (number NotFinite)
both_finite x c tags slots q s e =
    ap (λ (k : Covered). (line_for (ask (λ z. value z q) k) (ask (λ z. primitive z q) k)).refusal) e
    ∙ by_marks (finite (value s q)) (finite (primitive s q)) (value s q) (primitive s q)

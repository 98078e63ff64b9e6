-- What a query gets from a curve that passed its tests, by what is asked of the query and by the record that answers it.
use Rattle.query.specs.declared.answer.ManyRefusal.TheVariants as many
use Rattle.numbers.specs.declared.Marked.{Marked}
use Rattle.std.specs.Prelude.{Err, None, Ok, Option, Some}
use Prim.Native.Nat.{ℕ, zero, suc, ◌+◌, ◌-◌, ◌≤◌, ◌<◌}
use native.Mathlib.Omega.{arith}
use native.Mathlib.Nat.{eq-or-lt_of_le, le_of_suc-le-suc}
use native.Mathlib.Numerals.{add-one}
use mathlib.Core.Bool.{Bool, true, false, cond}
use mathlib.Core.List.{List}
use mathlib.Core.Logic.{⊎_elim}
use mathlib.Core.Path.{◌≡◌, refl, sym, ap, ◌∙◌}
use lib.Ieee.{Float, nan, le}
use lib.ListN.{length, take, drop, length-drop}
use lib.Seq.{length-take-le, get_or-take, get_or-drop}
use Rattle.numbers.specs.Every.{all_below}
use Rattle.numbers.proofs.Every.{all_at}
use Rattle.numbers.proofs.Ways.{never, lt_or_le}
use Rattle.section.specs.declared.section.Section.{Section}
use Rattle.refusal.specs.Refusal.{first, and_then, Verdict}
use Rattle.record.specs.Number.{answer_in, or_zero}
use Rattle.record.specs.Reading.{is_section, record_at}
use Rattle.refusal.specs.declared.Refusal.{Refusal}
use Rattle.refusal.proofs.First.{both_accept, first_append}
use Rattle.table.specs.Table.{at}
use Rattle.curve.specs.declared.curve.Curve.{Curve}
use Rattle.query.specs.Query.{curve_tests, point_tests, query_tests, place_of, tail_section, covering, covered_of, covered_at, ask, number_in, verdict_in, QueryAnswer, Covered}
use Rattle.query.proofs.Walk.{place_le}
use Rattle.query.specs.Steps.{asked_of}
use Rattle.query.specs.Many.{or_next, at_place, first_refused, ask_at, formula_at, ManyAnswer}

-- ---- the first refusal of many
abbrev pub is_answered : ManyAnswer → Bool
is_answered (Ok tt) = true
is_answered (Err (many.Whole r)) = false
is_answered (Err (many.Query r k)) = false

abbrev is_placed : ManyAnswer → Bool
is_placed (Err (many.Query r k)) = true
is_placed (Err (many.Whole r)) = false
is_placed (Ok tt) = false

abbrev place_in : ℕ → ManyAnswer → ℕ
place_in d (Ok tt) = d
place_in d (Err (many.Whole r)) = d
place_in d (Err (many.Query r k)) = k

abbrev refusal_in : Refusal → ManyAnswer → Refusal
refusal_in d (Ok tt) = d
refusal_in d (Err (many.Whole r)) = r
refusal_in d (Err (many.Query r k)) = r

pub both_answered : (v w : ManyAnswer) → or_next v w ≡ Ok tt → (v ≡ Ok tt) × (w ≡ Ok tt)
both_answered (Ok tt) w h = (refl, h)
both_answered (Err (many.Whole r)) w h = never (ap is_answered h) refl
both_answered (Err (many.Query r k)) w h = never (ap is_answered h) refl

accepted_here : (n : ℕ) (v : Verdict) → at_place n v ≡ Ok tt → v ≡ Ok tt
accepted_here n (Ok tt) h = refl
accepted_here n (Err r) h = never (ap is_answered h) refl

pub none_refused : (f : ℕ → Verdict) → first_refused 0 f ≡ Ok tt
unfolding first_refused
none_refused f = refl

pub one_more : (n : ℕ) (f : ℕ → Verdict) → first_refused n f ≡ Ok tt → f n ≡ Ok tt → first_refused (n + 1) f ≡ Ok tt
unfolding first_refused
one_more n f h e = rw (add-one n, h, e) refl

pub all_accepted : (n : ℕ) (f : ℕ → Verdict) → first_refused n f ≡ Ok tt → (k : ℕ) → k < n → f k ≡ Ok tt
unfolding first_refused
all_accepted zero f h k l = absurd (omega arith)
all_accepted (suc n) f h k l =
    let p = both_answered (first_refused n f) (at_place n (f n)) h in
    ⊎_elim (λ (e : k ≡ n). ap f e ∙ accepted_here n (f n) p.1) (λ (g : k < n). all_accepted n f p.0 k g) (eq-or-lt_of_le (le_of_suc-le-suc l))

-- where each is accepted, none is refused
pub every : (n : ℕ) (f : ℕ → Verdict) → ((k : ℕ) → k < n → f k ≡ Ok tt) → first_refused n f ≡ Ok tt
unfolding first_refused
every zero f h = refl
every (suc n) f h =
    ap (λ (v : ManyAnswer). or_next v (at_place n (f n))) (every n f (λ k l. h k (omega (arith, l)))) ∙ ap (at_place n) (h n (omega arith))

-- the first that is refused speaks for all, and says which it is
pub one_refused : (n k : ℕ) (f : ℕ → Verdict) (r : Refusal) → k < n → first_refused k f ≡ Ok tt → f k ≡ Err r → Err (many.Query r k) ≡ first_refused n f
unfolding first_refused
one_refused zero k f r l h e = absurd (omega arith)
one_refused (suc n) k f r l h e =
    ⊎_elim
    (λ (m : k ≡ n).
    sym (ap (λ (w : ManyAnswer). or_next w (at_place n (f n))) (ap (λ (j : ℕ). first_refused j f) (sym m) ∙ h)
    ∙ ap (λ (j : ℕ). at_place j (f j)) (sym m) ∙ ap (at_place k) e))
    (λ (m : k < n). sym (ap (λ (w : ManyAnswer). or_next w (at_place n (f n))) (sym (one_refused n k f r m h e))))
    (eq-or-lt_of_le (le_of_suc-le-suc l))

-- a refusal among n is that of the query that it names, and none before it is refused
module _ (f : ℕ → Verdict) (r : Refusal) (k : ℕ) where
  pub record Named (n : ℕ) : Type 0 where
    pub below : k < n
    pub before : first_refused k f ≡ Ok tt
    pub own : f k ≡ Err r

  named_step : (n : ℕ) (v : ManyAnswer) (w : Verdict) → first_refused n f ≡ v → f n ≡ w → or_next v (at_place n w) ≡ Err (many.Query r k) → (v ≡ Err (many.Query r k) → Named n) → Named (suc n)
  named_step n (Ok u) (Ok tt) e g h later = never refl (ap is_answered h)
  named_step n (Ok u) (Err q) e g h later =
      let same : n ≡ k = ap (place_in n) h in
      let why : q ≡ r = ap (refusal_in r) h in
      record { below = omega (arith, same); before = ap (λ (j : ℕ). first_refused j f) (sym same) ∙ e; own = ap f (sym same) ∙ g ∙ ap Err why }
  named_step n (Err q) w e g h later = let m = later h in record { below = omega (arith, m.below); before = m.before; own = m.own }

  pub named : (n : ℕ) → first_refused n f ≡ Err (many.Query r k) → Named n
  unfolding first_refused
  named zero h = never refl (ap is_answered h)
  named (suc n) h = named_step n (first_refused n f) (f n) refl refl h (λ g. named n g)

-- ---- blocks of many
module _ (f : ℕ → Verdict) (from m : ℕ) (done : first_refused from f ≡ Ok tt) where
  pub block_answered : first_refused m (λ j. f (from + j)) ≡ Ok tt → first_refused (from + m) f ≡ Ok tt
  block_answered h =
      every (from + m) f
      (λ k l.
      ⊎_elim
      (λ (g : k < from). all_accepted from f done k g)
      (λ (g : from ≤ k).
      let e : k ≡ from + (k - from) = omega (arith, g) in
      ap f e ∙ all_accepted m (λ j. f (from + j)) h (k - from) (omega (arith, g, l)))
      (lt_or_le k from))

-- a query that a block refuses is the first of all that is
pub block_refused : (f : ℕ → Verdict) (n from m : ℕ) → first_refused from f ≡ Ok tt → from + m ≤ n → (r : Refusal) (k : ℕ) → first_refused m (λ j. f (from + j)) ≡ Err (many.Query r k) →
    Err (many.Query r (from + k)) ≡ first_refused n f
block_refused f n from m done l r k h =
    let g = named (λ j. f (from + j)) r k m h in
    one_refused n (from + k) f r (omega (arith, g.below, l)) (block_answered f from k done g.before) g.own

-- none of many is refused as all are
as_one_of_many : (n : ℕ) (v : ManyAnswer) (w : Verdict) (r : Refusal) {A : Type 0} → or_next v (at_place n w) ≡ Err (many.Whole r) → ((q : Refusal) → v ≡ Err (many.Whole q) → A) → A
as_one_of_many n (Ok u) (Ok tt) r h later = never refl (ap is_answered h)
as_one_of_many n (Ok u) (Err q) r h later = never refl (ap is_placed h)
as_one_of_many n (Err (many.Whole q)) w r h later = later q refl
as_one_of_many n (Err (many.Query q j)) w r h later = never refl (ap is_placed h)

pub not_as_all : (f : ℕ → Verdict) (n : ℕ) (r : Refusal) {A : Type 0} → first_refused n f ≡ Err (many.Whole r) → A
unfolding first_refused
not_as_all f zero r h = never refl (ap is_answered h)
not_as_all f (suc n) r h = as_one_of_many n (first_refused n f) (f n) r h (λ q g. not_as_all f n q g)

-- what is said of each, said of all
pub refused_same : (n : ℕ) (f g : ℕ → Verdict) → ((k : ℕ) → k < n → f k ≡ g k) → first_refused n f ≡ first_refused n g
unfolding first_refused
refused_same zero f g h = refl
refused_same (suc n) f g h =
    ap (λ (v : ManyAnswer). or_next v (at_place n (f n))) (refused_same n f g (λ k l. h k (omega (arith, l))))
    ∙ ap (λ (v : Verdict). or_next (first_refused n g) (at_place n v)) (h n (omega arith))

-- a part of a list, by its places in the whole
pub part_same : (f : Float → Verdict) (qs : List Float) (from m : ℕ) → from + m ≤ length qs →
    first_refused (length (take m (drop from qs))) (λ i. f (at (take m (drop from qs)) i)) ≡ first_refused m (λ j. f (at qs (from + j)))
part_same f qs from m l =
    let e : length (take m (drop from qs)) ≡ m = length-take-le m (drop from qs) (rw length-drop (omega (arith, l))) in
    ap (λ (n : ℕ). first_refused n (λ i. f (at (take m (drop from qs)) i))) e
    ∙ refused_same m _ _ (λ k h. ap f (get_or-take m (drop from qs) k nan h ∙ get_or-drop from qs k nan))

-- ---- one query

-- an answer that is a number, finite or not
abbrev pub is_number : QueryAnswer → Bool
is_number (Ok m) = true
is_number (Err r) = false

abbrev accepts : Verdict → Bool
accepts (Ok tt) = true
accepts (Err r) = false

pub accepted_number : (k : QueryAnswer) → verdict_in k ≡ Ok tt → is_number k ≡ true
accepted_number (Ok m) h = refl
accepted_number (Err r) h = never (ap accepts h) refl

either_legal : (b : Bool) (s : Section) (f : Option Section) → is_section f ≡ true → is_section (cond b (Some s) f) ≡ true
either_legal true s f h = refl
either_legal false s f h = h

-- a query that is not refused passed its tests
pub own_accepted : (f : Section → Float) (v : Verdict) (k : Option Section) → verdict_in (ask f (covered_of v k)) ≡ Ok tt → v ≡ Ok tt
own_accepted f (Ok tt) k h = refl
own_accepted f (Err r) k h = never (ap accepts h) refl

-- what is asked of a query that passed its tests, by what the section that covers it answers
asked_of_found : (f : Section → Float) (k : Option Section) → asked_of (answer_in f k) ≡ ask f (covered_of (Ok tt) k)
asked_of_found f (Some s) = refl
asked_of_found f None = refl

pub answered : (f : Section → Float) (v : Verdict) (k : Option Section) (n : Option Marked) → v ≡ Ok tt → n ≡ answer_in f k → asked_of n ≡ ask f (covered_of v k)
answered f v k n e h = ap asked_of h ∙ asked_of_found f k ∙ ap (λ (u : Verdict). ask f (covered_of u k)) (sym e)

pub not_answered : (f : Section → Float) (v : Verdict) (r : Refusal) (k : Option Section) → v ≡ Err r → Err r ≡ ask f (covered_of v k)
not_answered f v r k e = rw e refl

number_of_found : (f : Section → Float) (v : Verdict) (k : Option Section) → is_number (ask f (covered_of v k)) ≡ true → number_in (ask f (covered_of v k)) ≡ or_zero (answer_in f k)
number_of_found f (Ok tt) (Some s) h = refl
number_of_found f (Ok tt) None h = refl
number_of_found f (Err r) k h = never h refl

module _ (x : List Float) (curve : Curve) (tags : List ℕ) (slots : List Float) (q : Float) where
  -- every record legal, and so the one that answers
  pub legal_covering : 2 ≤ length x → all_below (length x - 1) (λ i. is_section (record_at tags slots i)) ≡ true → is_section (covering x curve tags slots q) ≡ true
  unfolding covering
  legal_covering l h =
      either_legal (le (at x (length x - 1)) q) (tail_section curve) (record_at tags slots (place_of x q))
      (all_at (length x - 1) (λ i. is_section (record_at tags slots i)) h (place_of x q) (omega (arith, l, place_le x q)))

  pub from_the_last : le (at x (length x - 1)) q ≡ true → covering x curve tags slots q ≡ Some (tail_section curve)
  unfolding covering
  from_the_last h = rw h refl

  pub before_the_last : le (at x (length x - 1)) q ≡ false → covering x curve tags slots q ≡ record_at tags slots (place_of x q)
  unfolding covering
  before_the_last h = rw h refl

  -- a query that passed its tests is of a curve that did
  pub of_the_curve : first (query_tests x curve (length tags) (length slots) q) ≡ Ok tt → first (curve_tests x (length tags) (length slots)) ≡ Ok tt
  of_the_curve h =
      (both_accept (first (curve_tests x (length tags) (length slots))) (first (point_tests x curve q))
      (sym (first_append (curve_tests x (length tags) (length slots)) (point_tests x curve q)) ∙ h)).0

  -- the curve's tests passed, only the query's are left
  pub of_the_point : first (curve_tests x (length tags) (length slots)) ≡ Ok tt →
      covered_at x curve tags slots q ≡ covered_of (first (point_tests x curve q)) (covering x curve tags slots q)
  of_the_point h =
      ap (λ (v : Verdict). covered_of v (covering x curve tags slots q))
      (first_append (curve_tests x (length tags) (length slots)) (point_tests x curve q) ∙ ap (λ (v : Verdict). and_then v (first (point_tests x curve q))) h)

  -- so what is asked of it is told by the query's own tests and by the section that covers it
  pub asked_of_point : (f : Section → Float → Float) → first (curve_tests x (length tags) (length slots)) ≡ Ok tt →
      ask (λ (s : Section). f s q) (covered_of (first (point_tests x curve q)) (covering x curve tags slots q)) ≡ ask_at f x curve tags slots q
  asked_of_point f h = ap (λ (k : Covered). ask (λ (s : Section). f s q) k) (sym (of_the_point h))

  -- a query that gets a number gets that of the section that covers it
  pub told : (f : Section → Float → Float) → is_number (ask_at f x curve tags slots q) ≡ true →
      or_zero (answer_in (λ s. f s q) (covering x curve tags slots q)) ≡ formula_at f x curve tags slots q
  told f g = sym (number_of_found (λ s. f s q) (first (query_tests x curve (length tags) (length slots) q)) (covering x curve tags slots q) g)

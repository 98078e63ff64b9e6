-- A curve of ordinary size: every point that it may be asked for gets a finite number, and so does every strip whose ends are apart.
use Rattle.std.specs.Prelude.{Err, None, Ok, Option, Some}
use Prim.Native.Nat.{ℕ, ◌-◌, ◌*◌, ◌≤◌}
use native.Mathlib.Omega.{arith}
use mathlib.Core.Bool.{Bool, true, false, cond, ◌&&◌}
use mathlib.Core.List.{List}
use mathlib.Core.Path.{◌≡◌, refl, sym, ap, ◌∙◌}
use lib.Ieee.{Float, neg, lt, le}
use lib.ListN.{length, get_or, take, drop}
use Rattle.numbers.specs.Every.{all_below}
use Rattle.numbers.specs.Marks.{mark}
use Rattle.numbers.specs.Sizes.{slot_count}
use Rattle.numbers.specs.Words.{◌⊖◌, ◌⊘◌, most_size, ordinary_size, ordinary_divisor, finite}
use Rattle.numbers.proofs.AtMost.{le_on}
use Rattle.numbers.proofs.Bounds.{Within, within_finite, wider, difference_within, quotient_within}
use Rattle.numbers.proofs.Every.{all_at, and_split}
use Rattle.numbers.proofs.Nan.{not_nan}
use Rattle.numbers.proofs.Ordinary.{size_within, divisor_low}
use Rattle.numbers.proofs.Ways.{never}
use Rattle.section.specs.Section.{value, primitive}
use Rattle.section.specs.declared.section.Section.{Section}
use Rattle.section.specs.EverywhereConstant as constant
use Rattle.section.proofs.Ordinary.{Constant, constant_value, constant_primitive}
use Rattle.record.specs.Legal.{legal_record}
use Rattle.record.specs.Ordinary.{ordinary_record}
use Rattle.record.specs.Reading.{is_section, read_section, record_at}
use Rattle.record.proofs.FiniteAnswers.{ordinary_value, ordinary_primitive}
use Rattle.record.proofs.Legal.{legal_is_read}
use Rattle.refusal.specs.Refusal.{first, Verdict}
use Rattle.refusal.specs.declared.Refusal.TheVariants.{NotFinite, StripEndsNotRising}
use Rattle.table.specs.Table.{at}
use Rattle.curve.specs.declared.curve.Curve.{Curve}
use Rattle.query.specs.Query.{curve_tests, point_tests, outside, place_of, tail_section, covering, covered_of, ask, verdict_in, QueryAnswer}
use Rattle.query.specs.Many.{ask_at, queries_verdict}
use Rattle.query.specs.Steps.{figure, ordinary_at, ordinary_tail, ordinary_curve, lowest, highest, between, apart}
use Rattle.query.specs.Strip.{strip_of, total_to, strip_at, strips_verdict}
use Rattle.query.specs.declared.number.Wanted.{Wanted}
use Rattle.query.specs.declared.number.Wanted.TheVariants as wanted
use Rattle.query.proofs.Covering.{every, asked_of_point, from_the_last, before_the_last}
use Rattle.query.proofs.Walk.{place_le}

-- what was asked of two numbers is so of those that they were told to be
pub by_told : (n : ℕ) (qs : List Float) {l m u v : Float} → l ≡ m → u ≡ v → all_below n (λ k. between l u (at qs k)) ≡ true → all_below n (λ k. between m v (at qs k)) ≡ true
by_told n qs {m = m} {u = u} {v = v} e f h =
    sym (ap (λ (r : Float). all_below n (λ k. between r u (at qs k))) e ∙ ap (λ (r : Float). all_below n (λ k. between m r (at qs k))) f) ∙ h

-- how large a number may be
abbrev most : Wanted → ℕ
most wanted.Price = 1000
most wanted.Total = 960

-- an answer that is a number of that size
pub record Sized (k : ℕ) (answer : QueryAnswer) : Type 0 where
  pub given : Float
  pub is : answer ≡ Ok (mark given)
  pub within : Within k given

-- is not refused
marked_finite : (v : Float) (b : Bool) → b ≡ true → cond {A = Verdict} b (Ok tt) (Err NotFinite) ≡ Ok tt
marked_finite v b h = rw h refl

pub sized_accepted : {k : ℕ} {answer : QueryAnswer} → Sized k answer → verdict_in answer ≡ Ok tt
sized_accepted s = ap verdict_in s.is ∙ marked_finite s.given (finite s.given) (within_finite s.within)

-- the sections of such a curve
in_record : (w : Wanted) (tag : ℕ) (s : List Float) (q : Float) (k : Section) → ordinary_record tag s ≡ true → ordinary_size q ≡ true → read_section tag s ≡ Some k → Within (most w) (figure w k q)
in_record wanted.Price tag s q k o h e = ordinary_value tag s q k o h e
in_record wanted.Total tag s q k o h e = ordinary_primitive tag s q k o h e

of_tail : (curve : Curve) → ordinary_tail curve ≡ true → Constant (constant.new curve.tail.value curve.tail.total curve.tail.from)
of_tail curve o =
    let p = and_split (ordinary_size curve.tail.value) (ordinary_size curve.tail.total && ordinary_size curve.tail.from) o in
    let r = and_split (ordinary_size curve.tail.total) (ordinary_size curve.tail.from) p.1 in
    record { held = size_within curve.tail.value p.0; total = size_within curve.tail.total r.0; start = size_within curve.tail.from r.1 }

in_tail : (w : Wanted) (curve : Curve) (q : Float) → ordinary_tail curve ≡ true → ordinary_size q ≡ true → Within (most w) (figure w (tail_section curve) q)
unfolding value primitive
in_tail wanted.Price curve q o h = wider (constant_value _ (of_tail curve o) (size_within q h)) tt
in_tail wanted.Total curve q o h = constant_primitive _ (of_tail curve o) (size_within q h)

sized_found : (w : Wanted) (q : Float) (v : Verdict) (f : Option Section) → v ≡ Ok tt → is_section f ≡ true → ((k : Section) → f ≡ Some k → Within (most w) (figure w k q)) →
    Sized (most w) (ask (λ (s : Section). figure w s q) (covered_of v f))
sized_found w q v (Some k) e l h = record { given = figure w k q; is = ap (λ (u : Verdict). ask (λ (s : Section). figure w s q) (covered_of u (Some k))) e; within = h k refl }
sized_found w q v None e l h = never l refl

module _ (x : List Float) (curve : Curve) (tags : List ℕ) (slots : List Float) (tested : first (curve_tests x (length tags) (length slots)) ≡ Ok tt) (low : 2 ≤ length x)
    (ordinary : ordinary_curve x curve tags slots ≡ true) where
  parts : (ordinary_size (lowest x curve) ≡ true) × ((ordinary_size (highest x curve) ≡ true) × ((ordinary_tail curve ≡ true) × (all_below (length x - 1) (ordinary_at tags slots) ≡ true)))
  unfolding ordinary_curve
  parts =
      let p = and_split _ _ ordinary in
      let q = and_split _ _ p.1 in
      let r = and_split _ _ q.1 in
      (p.0, (q.0, (r.0, r.1)))

  module _ (q : Float) (reached : between (lowest x curve) (highest x curve) q ≡ true) where
    sides : (le (lowest x curve) q ≡ true) × (le q (highest x curve) ≡ true)
    sides = and_split _ _ reached

    -- a point within its reach is of ordinary size
    pub of_size : ordinary_size q ≡ true
    of_size =
        let l = and_split (le (neg most_size) (lowest x curve)) (le (lowest x curve) most_size) parts.0 in
        let h = and_split (le (neg most_size) (highest x curve)) (le (highest x curve) most_size) parts.1.0 in
        rw (le_on (neg most_size) (lowest x curve) q l.0 sides.0, le_on q (highest x curve) most_size sides.1 h.1) refl

    -- and passes its tests
    is_inside : (b : Bool) → curve.extrapolates ≡ b → outside x curve q ≡ false
    is_inside true e = rw e refl
    is_inside false e =
        let f : le (at x 0) q ≡ true = sym (ap (λ (b : Bool). le (cond b (neg most_size) (at x 0)) q) e) ∙ sides.0 in
        let g : le q (at x (length x - 1)) ≡ true = sym (ap (λ (b : Bool). le q (cond b most_size (at x (length x - 1)))) e) ∙ sides.1 in
        rw (e, f, g) refl

    point_accepted : first (point_tests x curve q) ≡ Ok tt
    point_accepted = rw (not_nan q (within_finite (size_within q of_size)), is_inside curve.extrapolates refl) refl

    found_sized : (w : Wanted) (b : Bool) → le (at x (length x - 1)) q ≡ b → Sized (most w) (ask (λ (s : Section). figure w s q) (covered_of (first (point_tests x curve q)) (covering x curve tags slots q)))
    found_sized w true e =
        record {
          given = figure w (tail_section curve) q;
          is =
              ap (λ (f : Option Section). ask (λ (s : Section). figure w s q) (covered_of (first (point_tests x curve q)) f)) (from_the_last x curve tags slots q e)
              ∙ ap (λ (u : Verdict). ask (λ (s : Section). figure w s q) (covered_of u (Some (tail_section curve)))) point_accepted;
          within = in_tail w curve q parts.1.1.0 of_size;
        }
    found_sized w false e =
        let p = place_of x q in
        let tag = get_or tags p 0 in
        let here = take slot_count (drop (slot_count * p) slots) in
        let o = and_split (legal_record tag here) (ordinary_record tag here) (all_at (length x - 1) (ordinary_at tags slots) parts.1.1.1 p (omega (arith, low, place_le x q))) in
        let s = sized_found w q (first (point_tests x curve q)) (record_at tags slots p) point_accepted (legal_is_read tag here ∙ o.0) (λ k g. in_record w tag here q k o.1 of_size g) in
        record {
          given = s.given;
          is = ap (λ (f : Option Section). ask (λ (s : Section). figure w s q) (covered_of (first (point_tests x curve q)) f)) (before_the_last x curve tags slots q e) ∙ s.is;
          within = s.within;
        }

    -- so what it is asked is answered with a number of that size
    pub answered_sized : (w : Wanted) → Sized (most w) (ask_at (figure w) x curve tags slots q)
    answered_sized w = let s = found_sized w (le (at x (length x - 1)) q) refl in record { given = s.given; is = sym (asked_of_point x curve tags slots q (figure w) tested) ∙ s.is; within = s.within }

  -- a strip between two points within its reach that are apart
  pub strip_sized : (a b : Float) → between (lowest x curve) (highest x curve) a ≡ true → between (lowest x curve) (highest x curve) b ≡ true → apart a b ≡ true →
      Sized 1001 (strip_at x curve tags slots a b)
  unfolding strip_at
  strip_sized a b f g h =
      let p = answered_sized a f wanted.Total in
      let q = answered_sized b g wanted.Total in
      let o = and_split (lt a b) (ordinary_divisor (b ⊖ a)) h in
      let d = difference_within (size_within b (of_size b g)) (size_within a (of_size a f)) tt in
      record {
        given = (q.given ⊖ p.given) ⊘ (b ⊖ a);
        is =
            ap (λ (k : QueryAnswer). strip_of a b k (total_to x curve tags slots b)) p.is
            ∙ ap (strip_of a b (Ok (mark p.given))) q.is
            ∙ ap (λ (l : Bool). cond l (Ok (mark ((q.given ⊖ p.given) ⊘ (b ⊖ a)))) (Err StripEndsNotRising)) o.0;
        within = quotient_within (difference_within q.within p.within tt) (divisor_low (b ⊖ a) d o.1) tt;
      }

  -- so no query of many is refused
  pub all_answered : (w : Wanted) (qs : List Float) → all_below (length qs) (λ i. between (lowest x curve) (highest x curve) (at qs i)) ≡ true → queries_verdict (figure w) x curve tags slots qs ≡ Ok tt
  all_answered w qs h = every (length qs) _ (λ i l. sized_accepted (answered_sized (at qs i) (all_at (length qs) (λ k. between (lowest x curve) (highest x curve) (at qs k)) h i l) w))

  -- nor any strip
  pub all_priced : (count : ℕ) (from to : ℕ → Float) → all_below count (λ k. between (lowest x curve) (highest x curve) (from k)) ≡ true →
      all_below count (λ k. between (lowest x curve) (highest x curve) (to k)) ≡ true → all_below count (λ k. apart (from k) (to k)) ≡ true → strips_verdict x curve tags slots count from to ≡ Ok tt
  all_priced count from to f g h =
      every count _
      (λ k l.
      sized_accepted
      (strip_sized (from k) (to k)
      (all_at count (λ j. between (lowest x curve) (highest x curve) (from j)) f k l)
      (all_at count (λ j. between (lowest x curve) (highest x curve) (to j)) g k l)
      (all_at count (λ j. apart (from j) (to j)) h k l)))

-- 02, K7: no strip with a finite price hides a total that is not finite, neither by two queries nor by two entries of a column.
use Rattle.std.specs.Prelude.{Err, Ok}
use Prim.Native.Nat.{ℕ, ◌<◌}
use native.Mathlib.Omega.{arith}
use mathlib.Core.Bool.{Bool, true, false, cond}
use mathlib.Core.List.{List}
use mathlib.Core.Path.{◌≡◌, refl, ap}
use borrow.Author.Tests.{lt-ltb}
use lib.Ieee.{Float, nan, inf, fin, neg, add, sub, div, lt}
use lib.ListN.{length}
use Rattle.numbers.specs.Marks.{mark}
use Rattle.numbers.specs.Words.{◌⊖◌, ◌⊘◌, finite}
use Rattle.numbers.proofs.Sums.{sum_finite_left}
use Rattle.numbers.proofs.Ways.{never}
use Rattle.section.specs.Section.{primitive}
use Rattle.section.specs.declared.section.Section.{Section}
use Rattle.refusal.specs.Refusal.{first, Verdict}
use Rattle.refusal.specs.declared.Refusal.TheVariants.{StripEndsNotRising, NotFinite}
use Rattle.table.specs.Table.{at}
use Rattle.curve.specs.declared.curve.Curve.{Curve}
use Rattle.query.specs.Query.{covered_at, ask, verdict_in, Covered, QueryAnswer}
use Rattle.query.specs.Strip.{strip_of, total_to, strip_at}
use Rattle.column.specs.Between.{between_tests, between_by, between_at}
use Rattle.column.specs.Entry.{entry_of}
use Rattle.column.proofs.Placed.{placed}

-- a quotient is finite of a finite number only, whatever that is divided by
dividend : (x d : Float) → finite (x ⊘ d) ≡ true → finite x ≡ true
unfolding finite div
dividend nan d h = h
dividend (inf s) nan h = h
dividend (inf s) (inf t) h = h
dividend (inf s) (fin t n e) h = h
dividend (fin s m e) d h = refl

-- and a difference of two finite numbers only
taken_away : (q p : Float) → finite (q ⊖ p) ≡ true → finite p ≡ true
unfolding finite sub neg add
taken_away nan p h = never h refl
taken_away (inf s) nan h = h
taken_away (inf true) (inf true) h = h
taken_away (inf true) (inf false) h = h
taken_away (inf false) (inf true) h = h
taken_away (inf false) (inf false) h = h
taken_away (inf s) (fin t n d) h = refl
taken_away (fin s m e) nan h = h
taken_away (fin s m e) (inf t) h = h
taken_away (fin s m e) (fin t n d) h = refl

pub finite_strip : (p q d : Float) → finite ((q ⊖ p) ⊘ d) ≡ true → (finite p ≡ true) × (finite q ≡ true)
unfolding sub
finite_strip p q d h = let f = dividend (q ⊖ p) d h in (taken_away q p f, sum_finite_left q (neg p) f)

-- ---- an answer that is accepted is finite, and a finite one is accepted
abbrev accepts : Verdict → Bool
accepts (Ok tt) = true
accepts (Err r) = false

by_mark : (b : Bool) → accepts (cond b (Ok tt) (Err NotFinite)) ≡ true → b ≡ true
by_mark true h = refl
by_mark false h = h

accepted_finite : (v : Float) → verdict_in (Ok (mark v)) ≡ Ok tt → finite v ≡ true
accepted_finite v h = by_mark (finite v) (ap accepts h)

finite_accepted : (v : Float) → finite v ≡ true → verdict_in (Ok (mark v)) ≡ Ok tt
finite_accepted v h = rw h

abbrev pub BothAccepted : QueryAnswer → QueryAnswer → Type 0
BothAccepted p q = (verdict_in p ≡ Ok tt) × (verdict_in q ≡ Ok tt)

-- ---- by two queries
in_order : (a b p q : Float) (l : Bool) → verdict_in (cond l (Ok (mark ((q ⊖ p) ⊘ (b ⊖ a)))) (Err StripEndsNotRising)) ≡ Ok tt →
    BothAccepted (Ok (mark p)) (Ok (mark q))
in_order a b p q true h = let f = finite_strip p q (b ⊖ a) (accepted_finite _ h) in (finite_accepted p f.0, finite_accepted q f.1)
in_order a b p q false h = never (ap accepts h) refl

by_sections : (f g : Section → Float) (a b : Float) (k l : Covered) → verdict_in (strip_of a b (ask f k) (ask g l)) ≡ Ok tt → BothAccepted (ask f k) (ask g l)
by_sections f g a b (Err r) l h = never (ap accepts h) refl
by_sections f g a b (Ok s) (Err r) h = never (ap accepts h) refl
by_sections f g a b (Ok s) (Ok t) h = in_order a b (f s) (g t) (lt a b) h

pub finite_totals : (x : List Float) (curve : Curve) (tags : List ℕ) (slots : List Float) (a b : Float) → verdict_in (strip_at x curve tags slots a b) ≡ Ok tt →
    BothAccepted (total_to x curve tags slots a) (total_to x curve tags slots b)
unfolding strip_at
finite_totals x curve tags slots a b h =
    by_sections (λ s. primitive s a) (λ s. primitive s b) a b (covered_at x curve tags slots a) (covered_at x curve tags slots b) h

-- ---- by two entries of a column
entry_accepted : (column : List Float) (i : ℕ) → i < length column → finite (at column i) ≡ true → verdict_in (entry_of column i) ≡ Ok tt
entry_accepted column i l h = rw (lt-ltb i (length column) l, h)

pub finite_entries : (x column : List Float) (i j : ℕ) → verdict_in (between_at x column i j) ≡ Ok tt → BothAccepted (entry_of column i) (entry_of column j)
finite_entries x column i j h = by (first (between_tests x (length column) i j)) refl h
  where
    by : (v : Verdict) → first (between_tests x (length column) i j) ≡ v →
        verdict_in (between_by v ((at column j ⊖ at column i) ⊘ (at x j ⊖ at x i))) ≡ Ok tt → BothAccepted (entry_of column i) (entry_of column j)
    by (Ok tt) e g =
        let p = placed x (length column) i j e in
        let f = finite_strip (at column i) (at column j) (at x j ⊖ at x i) (accepted_finite _ g) in
        (entry_accepted column i (omega (arith, p.room, p.order, p.inside)) f.0, entry_accepted column j (omega (arith, p.room, p.inside)) f.1)
    by (Err r) e g = never (ap accepts g) refl

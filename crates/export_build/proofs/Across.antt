-- What crosses the boundary: with no room for the answers every lent slice stays, and with room all is as the library leaves it.
use Rattle.table.specs.Table.{End}
use Rattle.std.specs.Prelude.{Err, None, Ok, Option}
use Prim.Native.Nat.{ℕ, ◌≤◌}
use mathlib.Core.Bool.{Bool, true, false}
use mathlib.Core.List.{List}
use mathlib.Core.Path.{◌≡◌, refl, sym, ap, ◌∙◌}
use borrow.Author.Tests.{ltb-false}
use lib.Dec.{ltb}
use lib.Ieee.{Float}
use lib.ListN.{length, set}
use Rattle.numbers.proofs.Ways.{or_none}
use Rattle.refusal.specs.Refusal.{number, Verdict}
use Rattle.refusal.specs.declared.Refusal.{Refusal}
use Rattle.refusal.specs.declared.Refusal.TheVariants.{CutsNotInner, SplitUnknown}
use Rattle.table.specs.Buffers.{Buffers, Outcome, judged}
use Rattle.table.specs.declared.method.ConvexMonotone.{ConvexMonotone}
use Rattle.table.specs.declared.ends.Seam.{Seam}
use Rattle.curve.specs.Build.{build_verdict, build_outcome, curve_of}
use Rattle.curve.specs.Curve.{curve_in_numbers, Built}
use Rattle.curve.specs.declared.curve.Curve.{Curve}
use Rattle.growth.specs.Growth.{grown, grow_outcome, Previous, Carried}
use Rattle.sheets.specs.Cuts.{cuts_fit}
use Rattle.sheets.specs.InSheets.{in_sheets_outcome}
use Rattle.sheets.specs.Sheet.{sheet_verdict, sheet_outcome, sheet_in_numbers, SheetBuilt}
use Rattle.sheets.specs.declared.sheet.SheetEnd.{SheetEnd}
use Rattle.export_build.specs.Building.{CurveAcross, no_answer, short_refusal, count_left, tail_left, in_mode}
use Rattle.export_build.specs.Steps.{last_refusal, last_cut, last_growth}
use Rattle.export_build.specs.OneSheet as one-sheet

-- room for one number and for three
pub roomy : (sections tail : ℕ) → no_answer sections tail ≡ false → (1 ≤ sections) × (3 ≤ tail)
roomy sections tail h = let (a, b) = or_none (ltb sections 1) (ltb tail 3) h in (ltb-false sections 1 a, ltb-false tail 3 b)

-- a curve's numbers: refused, or written
pub curve_refused : (b : Built) (r : Refusal) (n : ℕ) (sections : List ℕ) (tail : List Float) → b ≡ Err r → n ≡ number r →
    (n ≡ (curve_in_numbers b).refusal) × ((sections ≡ count_left b sections) × (tail ≡ tail_left b tail))
curve_refused b r n sections tail e f = (rw (e, f), (rw e, rw e))

pub curve_written : (b : Built) (c : Curve) (sections : List ℕ) (tail : List Float) → b ≡ Ok c →
    (◌≡◌ {A = ℕ} 0 (curve_in_numbers b).refusal)
    × ((set sections 0 c.sections ≡ count_left b sections)
    × (set (set (set tail 0 c.tail.value) 1 c.tail.total) 2 c.tail.from ≡ tail_left b tail))
curve_written b c sections tail e = (rw e, (rw e, rw e))

-- a mode that is not known: no slice changes
pub mode_refused : (b : Buffers) (sections : List ℕ) (tail : List Float) (d : Outcome Built) (is_unknown : Bool) (n : ℕ) → is_unknown ≡ true → n ≡ number SplitUnknown →
    record { refusal = n; buffers = b; sections = sections; tail = tail } ≡ in_mode is_unknown b sections tail d
mode_refused b sections tail d is_unknown n h e = rw (h, e)

-- in a known mode, whatever the library answers and leaves
module _ (is_unknown : Bool) (known : is_unknown ≡ false) (b : Buffers) (sections : List ℕ) (tail : List Float) (d : Outcome Built) where
  pub curve_short : (n : ℕ) → no_answer (length sections) (length tail) ≡ true → n ≡ short_refusal d.answer →
      record { refusal = n; buffers = b; sections = sections; tail = tail } ≡ in_mode is_unknown b sections tail d
  curve_short n h e = rw (known, h, e)

  abbrev told : Outcome Built → CurveAcross
  told o = record { refusal = (curve_in_numbers o.answer).refusal; buffers = o.buffers; sections = count_left o.answer sections; tail = tail_left o.answer tail }

  pub curve_roomy : (o : Outcome Built) (n : ℕ) (s : List ℕ) (t : List Float) → no_answer (length sections) (length tail) ≡ false → o ≡ d →
      (n ≡ (curve_in_numbers o.answer).refusal) × ((s ≡ count_left o.answer sections) × (t ≡ tail_left o.answer tail)) →
      record { refusal = n; buffers = o.buffers; sections = s; tail = t } ≡ in_mode is_unknown b sections tail d
  curve_roomy o n s t h e (p, (q, r)) = rw (p, q, r) (ap told e ∙ rw (known, h))

-- the refusal where there is no room for the answers: of a build, of a growing table and of one in sheets
last_of : (v : Verdict) (b : Buffers) (new : Outcome Built) (c : Curve) → new.answer ≡ Ok c → last_refusal v ≡ short_refusal (judged v Err b new).answer
last_of (Ok tt) b new c e = sym (ap short_refusal e)
last_of (Err r) b new c e = refl

pub build_last : (x y : List Float) (method : ConvexMonotone) (hold : Bool) (seam : Option Seam) (b : Buffers) (v : Verdict) (n : ℕ) →
    v ≡ build_verdict x y method seam b → n ≡ last_refusal v → n ≡ short_refusal (build_outcome x y method hold seam b).answer
unfolding curve_of
build_last x y method hold seam b v n e f = f ∙ ap last_refusal e ∙ last_of (build_verdict x y method seam b) b _ _ refl

pub grow_last : (x y : List Float) (method : ConvexMonotone) (hold : Bool) (k : Carried) (b : Buffers) (n : ℕ) →
    n ≡ last_growth k (λ s. build_verdict x y method s b) → n ≡ short_refusal (grown k b (λ s. build_outcome x y method hold s b)).answer
grow_last x y method hold (Ok s) b n e = build_last x y method hold s b _ n refl e
grow_last x y method hold (Err r) b n e = e

pub sheets_last : (x y : List Float) (method : ConvexMonotone) (cuts : List ℕ) (b : Buffers) (n : ℕ) →
    n ≡ last_cut (cuts_fit cuts (length x)) (build_verdict x y method None b) → n ≡ short_refusal (in_sheets_outcome x y method cuts b).answer
sheets_last x y method cuts b n e = by (cuts_fit cuts (length x)) refl
  where
    by : (fit : Bool) → cuts_fit cuts (length x) ≡ fit → n ≡ short_refusal (in_sheets_outcome x y method cuts b).answer
    by true h = rw h (build_last x y method false None b _ n refl (rw h at e))
    by false h = rw h (rw h at e)

-- a check of a growing table, and of one in sheets
pub carried_refused : (k : Carried) (r : Refusal) (n : ℕ) (f : Option Seam → Verdict) → k ≡ Err r → n ≡ number r → n ≡ last_growth k f
carried_refused k r n f e h = rw (e, h)

pub carried_seam : (k : Carried) (s : Option Seam) (n : ℕ) (v : Verdict) (f : Option Seam → Verdict) → k ≡ Ok s → n ≡ last_refusal v → v ≡ f s → n ≡ last_growth k f
carried_seam k s n v f e h w = rw (e, h, w)

pub cuts_refused : (fit : Bool) (v : Verdict) (n : ℕ) → fit ≡ false → n ≡ number CutsNotInner → n ≡ last_cut fit v
cuts_refused fit v n h e = rw (h, e)

pub cuts_taken : (fit : Bool) (v w : Verdict) (n : ℕ) → fit ≡ true → v ≡ w → n ≡ last_refusal v → n ≡ last_cut fit w
cuts_taken fit v w n h e f = rw (h, f, e)

-- a sheet's numbers: refused, or written
pub end_refused : (b : SheetBuilt) (r : Refusal) (n : ℕ) (answer : List Float) → b ≡ Err r → n ≡ number r →
    (n ≡ (sheet_in_numbers b).refusal) × (answer ≡ one-sheet.end_left b answer)
end_refused b r n answer e f = (rw (e, f), rw e)

pub end_written : (b : SheetBuilt) (s : SheetEnd) (answer : List Float) → b ≡ Ok s →
    (◌≡◌ {A = ℕ} 0 (sheet_in_numbers b).refusal)
    × (set (set (set (set answer 0 s.total) 1 s.tail.value) 2 s.tail.total) 3 s.tail.from ≡ one-sheet.end_left b answer)
end_written b s answer e = (rw e, rw e)

pub sheet_mode_refused : (b : Buffers) (answer : List Float) (d : Outcome SheetBuilt) (is_unknown : Bool) (n : ℕ) → is_unknown ≡ true → n ≡ number SplitUnknown →
    record { refusal = n; buffers = b; answer = answer } ≡ one-sheet.in_mode_sheet is_unknown b answer d
sheet_mode_refused b answer d is_unknown n h e = rw (h, e)

module _ (is_unknown : Bool) (known : is_unknown ≡ false) (b : Buffers) (answer : List Float) (d : Outcome SheetBuilt) where
  pub sheet_short : (n : ℕ) → ltb (length answer) 4 ≡ true → n ≡ one-sheet.short_refusal d.answer →
      record { refusal = n; buffers = b; answer = answer } ≡ one-sheet.in_mode_sheet is_unknown b answer d
  sheet_short n h e = rw (known, h, e)

  abbrev told_sheet : Outcome SheetBuilt → one-sheet.SheetAcross
  told_sheet o = record { refusal = (sheet_in_numbers o.answer).refusal; buffers = o.buffers; answer = one-sheet.end_left o.answer answer }

  pub sheet_roomy : (o : Outcome SheetBuilt) (n : ℕ) (l : List Float) → ltb (length answer) 4 ≡ false → o ≡ d →
      (n ≡ (sheet_in_numbers o.answer).refusal) × (l ≡ one-sheet.end_left o.answer answer) → record { refusal = n; buffers = o.buffers; answer = l } ≡ one-sheet.in_mode_sheet is_unknown b answer d
  sheet_roomy o n l h e (p, q) = rw (p, q) (ap told_sheet e ∙ rw (known, h))

last_of_sheet : (v : Verdict) (b : Buffers) (new : Outcome SheetBuilt) (s : SheetEnd) → new.answer ≡ Ok s →
    last_refusal v ≡ one-sheet.short_refusal (judged v Err b new).answer
last_of_sheet (Ok tt) b new s e = sym (ap one-sheet.short_refusal e)
last_of_sheet (Err r) b new s e = refl

pub sheet_last : (x y : List Float) (method : ConvexMonotone) (l r : End) (start : Float) (place : ℕ) (b : Buffers) (v : Verdict) (n : ℕ) →
    v ≡ sheet_verdict x y method l r place b → n ≡ last_refusal v → n ≡ one-sheet.short_refusal (sheet_outcome x y method l r start place b).answer
sheet_last x y method l r start place b v n e f = f ∙ ap last_refusal e ∙ last_of_sheet (sheet_verdict x y method l r place b) b _ _ refl

-- what is built with the settings and the seam that came across
pub same_build : (x y : List Float) (m n : ConvexMonotone) (hold : Bool) (s t : Option Seam) (b : Buffers) → m ≡ n → s ≡ t → build_outcome x y m hold s b ≡ build_outcome x y n hold t b
same_build x y m n hold s t b e f = ap (λ (k : ConvexMonotone). build_outcome x y k hold s b) e ∙ ap (λ (k : Option Seam). build_outcome x y n hold k b) f

-- what is grown with the settings and the previous curve that came across
module _ (x y : List Float) (m n : ConvexMonotone) (localisation final : ℕ) (p q : Previous) (tags : List ℕ) (slots : List Float) (b : Buffers) (e : m ≡ n) (f : p ≡ q) where
  pub same_grow : grow_outcome x y m localisation final p tags slots b ≡ grow_outcome x y n localisation final q tags slots b
  same_grow = ap (λ (k : ConvexMonotone). grow_outcome x y k localisation final p tags slots b) e ∙ ap (λ (k : Previous). grow_outcome x y n localisation final k tags slots b) f

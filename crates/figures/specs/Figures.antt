-- 01, Figures to agree with: p1 to p10 in one table, and 02, K3: careful p6, and K7: p8's NaN is marked, and a query of it refused. A row has the figure's number, what the definitions give that the contracts cite, and what the document says;
-- floats by their bits.
use Prim.Native.Nat as nat
use Rattle.std.specs.Prelude.{ℕ, suc, ◌+◌, ◌*◌, Bool, true, false, cond, ◌&&◌, List, [], ◌∷◌, eqb, Float, length, get_or, replicate, Err, None, Ok, Option, Some}
use Rattle.std.specs.Float.{nan, binary64}
use Rattle.std.specs.Float.Ieee.{of_bits, to_bits, neg}
use Rattle.numbers.specs.Marks.{mark}
use Rattle.numbers.specs.Sizes.{slot_count}
use Rattle.numbers.specs.Words.{zero, half, one, two, three, four, seven_tenths}
use Rattle.root.specs.Root.{root}
use Rattle.quadratic.specs.QuadraticMin as quadmin
use Rattle.quadratic.specs.declared.quadratic_min.QuadraticMin.{QuadraticMin}
use Rattle.section.specs.Section as section
use Rattle.section.specs.declared.section.Section.{Section}
use Rattle.refusal.specs.Refusal.{verdict_number}
use Rattle.record.specs.Slots.{slots_of}
use Rattle.record.specs.Tag.{tag_of}
use Rattle.table.specs.Buffers.{Buffers, Outcome, buffers}
use Rattle.table.specs.Method as method
use Rattle.table.specs.declared.ends.Seam.{Seam}
use Rattle.table.specs.declared.method.ConvexMonotone.{ConvexMonotone}
use Rattle.table.specs.declared.method.Split.{Split}
use Rattle.table.specs.declared.method.Split.TheVariants as split
use Rattle.choice.specs.Choice.{section_of}
use Rattle.curve.specs.Build.{build_verdict, build_outcome}
use Rattle.curve.specs.Curve.{curve_in_numbers, with_extrapolation, Built}
use Rattle.query.specs.Query.{place_of, covered_at, ask, answer_in_numbers}
use Rattle.curve.specs.declared.curve.Curve.{Curve}
use Rattle.curve.specs.declared.curve.CurveInNumbers.{CurveInNumbers}
use Rattle.query.specs.declared.answer.AnswerInNumbers.{AnswerInNumbers}
use Rattle.sheets.specs.Sheet.{sheet_outcome}

pub record Row : Type 0 where
  pub figure : ℕ
  pub computed : ℕ
  pub expected : ℕ

abbrev row : ℕ → ℕ → ℕ → Row
row p c e = record { figure = p; computed = c; expected = e }

abbrev bits : Float → ℕ
bits = to_bits binary64

abbrev quarter : Float
quarter = of_bits binary64 0x3fd0_0000_0000_0000

abbrev three_quarters : Float
three_quarters = of_bits binary64 0x3fe8_0000_0000_0000

abbrev one_and_a_half : Float
one_and_a_half = of_bits binary64 0x3ff8_0000_0000_0000

abbrev seven : Float
seven = of_bits binary64 0x401c_0000_0000_0000

abbrev nine : Float
nine = of_bits binary64 0x4022_0000_0000_0000

-- the curve that was built; every table here is accepted
abbrev curve_in : Built → Curve
curve_in (Ok c) = c
curve_in (Err r) = record { sections = 0; held = false; extrapolates = false; tail = record { value = nan; total = nan; from = nan } }

-- a table built into buffers of zeros, with no held period
module _ (x y : List Float) (m : ConvexMonotone) where
  abbrev lent : Buffers
  lent = buffers (replicate (length x) zero) (replicate (length x) 0) (replicate (2 * slot_count) zero)

  abbrev made : Outcome Built
  made = build_outcome x y m false None lent

  abbrev nodes_of : List Float
  nodes_of = made.buffers.nodes

  abbrev tags_of : List ℕ
  tags_of = made.buffers.tags

  abbrev slots_in : List Float
  slots_in = made.buffers.slots

  abbrev in_numbers : CurveInNumbers
  in_numbers = curve_in_numbers made.answer

  abbrev curve : Bool → Curve
  curve allow = with_extrapolation (curve_in made.answer) allow

  abbrev value_at : Bool → Float → AnswerInNumbers
  value_at allow q = answer_in_numbers (ask (λ s. section.value s q) (covered_at x (curve allow) tags_of slots_in q))

  abbrev number_with : Option Seam → ℕ
  number_with s = verdict_number (build_verdict x y m s lent)

-- p1
abbrev x1 : List Float
x1 = zero ∷ two ∷ []

abbrev y1 : List Float
y1 = nine ∷ two ∷ []

-- p2
abbrev x2 : List Float
x2 = zero ∷ one ∷ two ∷ []

abbrev y2 : List Float
y2 = zero ∷ one ∷ three ∷ []

abbrev m2 : ConvexMonotone
m2 = method.new zero one false

-- p4: two sheets, one after the other, into buffers of zeros
abbrev in_two_sheets : Buffers
in_two_sheets =
    let first = sheet_outcome (zero ∷ one ∷ []) (zero ∷ one ∷ []) m2 None (Some two) zero 0 (lent x2 y2 m2) in
    (sheet_outcome (one ∷ two ∷ []) (one ∷ three ∷ []) m2 (Some two) None one 1 first.buffers).buffers

abbrev sheet_nodes : List Float
sheet_nodes = in_two_sheets.nodes

abbrev sheet_slots : List Float
sheet_slots = in_two_sheets.slots

-- how many of the first n entries are the same
unfoldable pub same : ℕ → List Float → List Float → ℕ
same nat.zero a b = 0
same (suc n) a b = cond (eqb (bits (get_or a n nan)) (bits (get_or b n nan))) 1 0 + same n a b

-- p5 and p6: on 0..1, ends 4 and 1
abbrev falls_to : Float → QuadraticMin
falls_to average = quadmin.new zero one four one average zero

abbrev falls_carefully : Float → QuadraticMin
falls_carefully average = quadmin.careful zero one four one average zero

-- the settings at which p6 is chosen, in either mode
abbrev m6 : Split → ConvexMonotone
m6 mode = method.with_split mode (method.new zero seven_tenths true)

abbrev flag : Bool → ℕ
flag b = cond b 1 0

-- p7 and p8: on 0..1, by the nodes and the average
abbrev chosen : ConvexMonotone → Float → Float → Float → Section
chosen m before after average =
    section_of m (record { x_prev = zero; x_next = one; f_prev = before; f_next = after; f_average = average; prev_primitive = zero })

-- what a query is answered that such a section covers
abbrev covers : Section → Float → AnswerInNumbers
covers s q = answer_in_numbers (ask (λ z. section.value z q) (Ok s))

abbrev slot_of : Section → ℕ → ℕ
slot_of s k = bits (get_or (slots_of s) k nan)

abbrev pub table : List Row
table =
    row 1 (get_or (tags_of x1 y1 (method.new zero zero false)) 0 0) 0x0100
    ∷ row 2 (bits (get_or (nodes_of x2 y2 m2) 0 nan)) 0x3fe0_0000_0000_0000
    ∷ row 2 (bits (get_or (nodes_of x2 y2 m2) 1 nan)) 0x4000_0000_0000_0000
    ∷ row 2 (bits (get_or (nodes_of x2 y2 m2) 2 nan)) 0x400c_0000_0000_0000
    ∷ row 2 (get_or (tags_of x2 y2 m2) 0 0) 0x2000
    ∷ row 2 (get_or (tags_of x2 y2 m2) 1 0) 0x2000
    ∷ row 2 (bits (value_at x2 y2 m2 false half).answer) 0x3fec_0000_0000_0000
    ∷ row 2 (bits (value_at x2 y2 m2 false one_and_a_half).answer) 0x4009_0000_0000_0000
    ∷ row 2 (bits (in_numbers x2 y2 m2).tail.value) 0x400c_0000_0000_0000
    ∷ row 2 (bits (in_numbers x2 y2 m2).tail.total) 0x4010_0000_0000_0000
    ∷ row 2 (bits (in_numbers x2 y2 m2).tail.from) 0x4000_0000_0000_0000
    ∷ row 3 (place_of x2 one) 1
    ∷ row 3 (value_at x2 y2 m2 false (neg one)).refusal 13
    ∷ row 3 (bits (value_at x2 y2 m2 true (neg one)).answer) 0x4000_0000_0000_0000
    ∷ row 4 (same 3 sheet_nodes (nodes_of x2 y2 m2)) 3
    ∷ row 4 (same (2 * slot_count) sheet_slots (slots_in x2 y2 m2)) (2 * slot_count)
    ∷ row 4 (get_or in_two_sheets.tags 0 0) (get_or (tags_of x2 y2 m2) 0 0)
    ∷ row 4 (get_or in_two_sheets.tags 1 0) (get_or (tags_of x2 y2 m2) 1 0)
    ∷ row 5 (bits (quadmin.value (falls_to half) quarter)) 0x3fd0_0000_0000_0000
    ∷ row 5 (bits (quadmin.value (falls_to half) half)) 0x0000_0000_0000_0000
    ∷ row 5 (bits (quadmin.value (falls_to half) one)) 0x3ff0_0000_0000_0000
    ∷ row 6 (flag (falls_to three).split_region) 1
    ∷ row 6 (bits (falls_to three).x_ratio) 0x4008_0000_0000_0000
    ∷ row 6 (bits (quadmin.value (falls_to three) three_quarters)) 0x3ff9_0000_0000_0000
    ∷ row 6 (flag (falls_carefully three).split_region) 0
    ∷ row 6 (bits (quadmin.value (falls_carefully three) three_quarters)) 0x4002_8000_0000_0000
    ∷ row 6 (bits (section.value (chosen (m6 split.Original) four one three) three_quarters)) 0x3ff9_0000_0000_0000
    ∷ row 6 (bits (section.value (chosen (m6 split.Careful) four one three) three_quarters)) 0x4002_8000_0000_0000
    ∷ row 7 (tag_of (chosen (method.new zero seven_tenths false) one seven two)) 0x0300
    ∷ row 7 (slot_of (chosen (method.new zero seven_tenths false) one seven two) 18) 0x3fe0_0000_0000_0000
    ∷ row 7 (bits (section.value (chosen (method.new zero seven_tenths false) one seven two) three_quarters)) 0x4004_0000_0000_0000
    ∷ row 7 (tag_of (chosen (method.new zero zero false) one seven two)) 0x0500
    ∷ row 8 (tag_of (chosen m2 two one one)) 0x0500
    ∷ row 8 (slot_of (chosen m2 two one one) 18) 0x0000_0000_0000_0000
    ∷ row 8 (bits (section.value (chosen m2 two one one) zero)) 0x7ff8_0000_0000_0000
    ∷ row 8 (flag (mark (section.value (chosen m2 two one one) zero)).finite) 0
    ∷ row 8 (covers (chosen m2 two one one) zero).refusal 21
    ∷ row 8 (bits (covers (chosen m2 two one one) zero).answer) 0x0000_0000_0000_0000
    ∷ row 9 (bits (root (of_bits binary64 0x40a2_0000_0000_0000))) 0x4048_0000_0000_0000
    ∷ row 9 (bits (root (of_bits binary64 0x4000_0000_0000_0000))) 0x3ff6_a09e_667f_3bcd
    ∷ row 9 (bits (root (of_bits binary64 0x0000_0000_0000_0001))) 0x1e60_0000_0000_0000
    ∷ row 9 (bits (root (of_bits binary64 0x8000_0000_0000_0000))) 0x8000_0000_0000_0000
    ∷ row 10 (number_with x2 y2 m2 (Some (record { count = 1; node = two }))) 0
    ∷ row 10 (number_with x2 y2 m2 (Some (record { count = 2; node = two }))) 8
    ∷ []

abbrev pub agree : List Row → Bool
agree [] = true
agree (r ∷ rs) = eqb r.computed r.expected && agree rs

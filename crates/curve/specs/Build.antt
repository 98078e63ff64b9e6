-- 01, Refusal numbers: build; Node values: two points. What `build` answers and leaves in the lent buffers.
use Rattle.curve.specs.Curve.{Built}
use Rattle.std.specs.Prelude.{ℕ, ◌-◌, Bool, true, false, cond, List, [], ◌∷◌, ◌++◌, eqb, Float, length, Err, None, Ok, Option, Some}
use Rattle.numbers.specs.Words.{zero}
use Rattle.refusal.specs.Refusal.{Test, first, Verdict}
use Rattle.table.specs.Buffers.{Buffers, Outcome, judged}
use Rattle.table.specs.Check.{table_tests, seam_test, sign_test, room_tests}
use Rattle.table.specs.declared.method.ConvexMonotone.{ConvexMonotone}
use Rattle.table.specs.declared.ends.Seam.{Seam}
use Rattle.table.specs.declared.ends.Frame.{Frame}
use Rattle.assembly.specs.Sections.{tail_of}
use Rattle.assembly.specs.Making.{after}

-- refused in the order 1 to 8, 29, 10, 11
abbrev pub seamed_tests : List Float → List Float → ConvexMonotone → Option Seam → List Test
seamed_tests x y method seam = table_tests x y method ++ (seam_test seam (length x) ∷ sign_test y method ∷ [])

abbrev pub build_tests : List Float → List Float → ConvexMonotone → Option Seam → ℕ → ℕ → ℕ → List Test
build_tests x y method seam nodes tags slots = seamed_tests x y method seam ++ room_tests (length x) nodes tags slots

abbrev pub build_verdict : List Float → List Float → ConvexMonotone → Option Seam → Buffers → Verdict
build_verdict x y method seam b = first (build_tests x y method seam (length b.nodes) (length b.tags) (length b.slots))

-- A whole table: its ends are free and its total starts at 0. Two points are one constant section between nodes of +0.0.
abbrev pub whole_frame : ℕ → ConvexMonotone → Bool → Option Seam → Frame
whole_frame n method hold seam =
    cond (eqb n 2)
    (record { method = method; hold = true; seam = seam; left = Some zero; right = Some zero; start = zero })
    (record { method = method; hold = hold; seam = seam; left = None; right = None; start = zero })

-- The curve of a table that is not refused. It keeps what was asked about its last period: growth from two points retains their section unless a
-- held period was asked for.
unfoldable pub curve_of : List Float → List Float → Frame → Bool → Built
curve_of x y frame hold = Ok (record { sections = length x - 1; held = hold; extrapolates = false; tail = tail_of x y frame })

-- what `build` answers, and the buffers as it leaves them
abbrev pub build_outcome : List Float → List Float → ConvexMonotone → Bool → Option Seam → Buffers → Outcome Built
build_outcome x y method hold seam b =
    let frame = whole_frame (length x) method hold seam in
    judged (build_verdict x y method seam b) Err b (record { answer = curve_of x y frame hold; buffers = after 0 x y frame b })

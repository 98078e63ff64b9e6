-- 01, Refusal numbers; Buffers and section records. What is asked of sizes, and what is made of a table in lent buffers.
use Rattle.std.specs.Prelude.{ℕ, ◌-◌, ◌*◌, not, List, ◌∷◌, eqb, ltb, Float, length, Result, Ok, Err}
use Rattle.numbers.specs.OneOutcome.{pair}
use Rattle.numbers.specs.Overlay.{overlay}
use Rattle.numbers.specs.Sizes.{slot_count}
use Rattle.numbers.specs.Words.{zero}
use Rattle.refusal.specs.Refusal.{Test, first, number, ◌⇒◌, Verdict}
use Rattle.refusal.specs.declared.Refusal.{Refusal}
use Rattle.refusal.specs.declared.Refusal.TheVariants.{LengthsDiffer, TooFewPoints}
use Rattle.table.specs.Buffers.{Buffers, Outcome, judged}
use Rattle.table.specs.Check.{room_tests}
use Rattle.table.specs.Table.{node_at}
use Rattle.table.specs.declared.ends.Frame.{Frame}
use Rattle.assembly.specs.Sections.{tag_at, slot_at, tail_of}
use Rattle.assembly.specs.declared.sections.Tail.{Tail}

-- what making answers: the tail, or why nothing was made
abbrev pub Made : Type 0
Made = Result Tail Refusal

-- 1, 4, 10 and 11, for so many knots and averages and lent buffers of these lengths
abbrev pub size_tests : ℕ → ℕ → ℕ → ℕ → ℕ → List Test
size_tests n m nodes tags slots = (not (eqb n m) ⇒ LengthsDiffer) ∷ (ltb n 2 ⇒ TooFewPoints) ∷ room_tests n nodes tags slots

abbrev pub size_verdict : List Float → List Float → Buffers → Verdict
size_verdict x y b = first (size_tests (length x) (length y) (length b.nodes) (length b.tags) (length b.slots))

-- the nodes and records of a table of n points from place p on: n nodes, n - 1 tags, a record's slots to each of these
module _ (p : ℕ) (x y : List Float) (frame : Frame) where
  abbrev pub nodes_after : List Float → List Float
  nodes_after old = overlay p (length x) (node_at x y frame) old

  abbrev pub tags_after : List ℕ → List ℕ
  tags_after old = overlay p (length x - 1) (tag_at x y frame) old

  abbrev pub slots_after : List Float → List Float
  slots_after old = overlay (slot_count * p) (slot_count * (length x - 1)) (slot_at x y frame) old

  abbrev pub after : Buffers → Buffers
  after b = record { nodes = nodes_after b.nodes; tags = tags_after b.tags; slots = slots_after b.slots }

  -- what `make` answers and leaves where the verdict on the sizes is v
  abbrev pub made_from : Verdict → Buffers → Outcome Made
  made_from v b = judged v Err b (record { answer = Ok (tail_of x y frame); buffers = after b })

-- in the documents' numbers: the refusal's, or 0, with the tail
abbrev pub made_in_numbers : Made → ℕ × Tail
made_in_numbers (Ok t) = pair 0 t
made_in_numbers (Err r) = pair (number r) (record { value = zero; total = zero; from = zero })

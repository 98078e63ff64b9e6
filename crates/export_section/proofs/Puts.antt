-- A section in a lent tag and lent slots: no room for it, or written.
use Prim.Native.Nat.{ℕ, ◌≤◌, ◌<◌}
use mathlib.Core.Bool.{true, false}
use mathlib.Core.List.{List}
use mathlib.Core.Path.{◌≡◌, ap, ◌∙◌}
use borrow.Author.Tests.{lt-ltb, le-ltb}
use lib.Ieee.{Float}
use lib.ListN.{length, set}
use Rattle.numbers.specs.Sizes.{field_count}
use Rattle.refusal.specs.Refusal.{number}
use Rattle.refusal.specs.declared.Refusal.TheVariants.{BufferTooShort}
use Rattle.section.specs.declared.section.Section.{Section}
use Rattle.record.specs.Slots.{slots_of}
use Rattle.record.specs.Tag.{tag_of}
use Rattle.export_section.specs.Records.{copied}
use Rattle.export_section.specs.Kinds.{SectionAcross, across, no_room, section_across}

-- what the two tests make of the room
pub no_tag : (tags slots : ℕ) → tags < 1 → no_room tags slots ≡ true
no_tag tags slots h = rw (lt-ltb tags 1 h)

pub no_slots : (tags slots : ℕ) → 1 ≤ tags → slots < field_count → no_room tags slots ≡ true
no_slots tags slots h k = rw (le-ltb tags 1 h, lt-ltb slots field_count k)

pub enough : (tags slots : ℕ) → 1 ≤ tags → field_count ≤ slots → no_room tags slots ≡ false
enough tags slots h k = rw (le-ltb tags 1 h, le-ltb slots field_count k)

module _ (s : Section) (tag : List ℕ) (slots : List Float) where
  pub put_short : (n : ℕ) → no_room (length tag) (length slots) ≡ true → n ≡ number BufferTooShort → across n tag slots ≡ section_across s tag slots
  put_short n h e = rw (h, e)

  pub put_written : (t : ℕ) (numbers after : List Float) → no_room (length tag) (length slots) ≡ false → t ≡ tag_of s → numbers ≡ slots_of s → after ≡ copied field_count numbers slots →
      across 0 (set tag 0 t) after ≡ section_across s tag slots
  put_written t numbers after h et en ea = rw (et, ea, en) (rw h)

  -- what is put of a section is put of its definition
  pub put_of : (r : Section) (a : SectionAcross) → r ≡ s → a ≡ section_across r tag slots → a ≡ section_across s tag slots
  put_of r a e p = p ∙ ap (λ (q : Section). section_across q tag slots) e

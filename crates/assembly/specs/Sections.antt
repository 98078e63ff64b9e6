-- 01, Choosing a section: the section of each period and its record, by place; the tail beyond the last knot.
use Rattle.std.specs.Prelude.{ℕ, ◌+◌, ◌-◌, ◌/◌, ◌%◌, cond, ◌&&◌, List, eqb, Float, length, get_or}
use Rattle.std.specs.Float.{nan}
use Rattle.section.specs.EverywhereConstant as constant
use Rattle.section.specs.Section as section
use Rattle.section.specs.declared.section.Section.{Section}
use Rattle.section.specs.declared.section.Section.TheVariants as kind
use Rattle.numbers.specs.Sizes.{slot_count}
use Rattle.record.specs.Slots.{record_of}
use Rattle.record.specs.Tag.{tag_of}
use Rattle.table.specs.Table.{at, node_at, total_at}
use Rattle.table.specs.declared.ends.Frame.{Frame}
use Rattle.choice.specs.declared.period.Period.{Period}
use Rattle.choice.specs.Choice.{section_of}
use Rattle.assembly.specs.declared.sections.Tail.{Tail}

module _ (x y : List Float) (frame : Frame) where
  -- period i + 1, from knot i to the next
  abbrev pub period_at : ℕ → Period
  period_at i = record {
    x_prev = at x i;
    x_next = at x (i + 1);
    f_prev = node_at x y frame i;
    f_next = node_at x y frame (i + 1);
    f_average = at y (i + 1);
    prev_primitive = total_at x y frame i;
  }

  abbrev pub shaped_at : ℕ → Section
  shaped_at i = section_of frame.method (period_at i)

  -- a held last period is constant
  abbrev pub held_at : ℕ → Section
  held_at i = kind.EverywhereConstant (constant.new (at y (i + 1)) (total_at x y frame i) (at x i))

  unfoldable pub section_at : ℕ → Section
  section_at i = cond (frame.hold && eqb i (length x - 2)) (held_at i) (shaped_at i)

  abbrev pub tag_at : ℕ → ℕ
  tag_at i = tag_of (section_at i)

  -- 02, K9: the record of period i + 1
  abbrev pub record_for : ℕ → List Float
  record_for i = record_of (section_at i) (at x i) (at x (i + 1)) (total_at x y frame (i + 1))

  -- what stands in slot k of all records in a row
  abbrev pub slot_at : ℕ → Float
  slot_at k = get_or (record_for (k / slot_count)) (k % slot_count) nan

  -- the tail: its value, its total and where it starts
  unfoldable pub tail_of : Tail
  tail_of =
      let i = length x - 2 in
      cond frame.hold
      (record { value = at y (i + 1); total = total_at x y frame i; from = at x i })
      (record { value = section.value (section_at i) (at x (i + 1)); total = total_at x y frame (i + 1); from = at x (i + 1) })

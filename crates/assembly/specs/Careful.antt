-- 02, K3: what is claimed of the records of a table in every mode but the original's.
use Rattle.std.specs.Prelude.{ℕ, ◌+◌, true, List, ◌≡◌, Float, Some}
use Rattle.numbers.specs.Words.{◌⊖◌}
use Rattle.section.specs.declared.section.Section.{Section}
use Rattle.record.specs.Reading.{record_at}
use Rattle.table.specs.Table.{at}
use Rattle.choice.specs.Careful.{within}

-- the record at place i holds a section whose Min parabola, where it has one, is not split or no longer than the period
pub record WithinAt (x : List Float) (tags : List ℕ) (slots : List Float) (i : ℕ) : Type 0 where
  pub section : Section
  pub held : record_at tags slots i ≡ Some section
  pub no_longer : within (at x (i + 1) ⊖ at x i) section ≡ true

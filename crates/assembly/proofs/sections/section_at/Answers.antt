-- The nodes at hand are those of the table.
use Prim.Native.Nat.{◌+◌}
use native.Mathlib.Omega.{arith}
use mathlib.Core.Path.{◌≡◌, sym, ◌∙◌}
use Rattle.assembly.specs.Sections.{shaped_at}
use Rattle.assembly.proofs.Rows.{held_here, shaped_here}
use Rattle.assembly.proofs.sections.section_at.Goals as goal

pub returns-then-is_held : goal.returns-then-is_held
returns-then-is_held c =
    let a = c.args in
    rw (held_here a.xs.now a.ys.now a.frame a.i (sym c.is_held.ensures ∙ c.if-is_held.true), c.new.ensures, c.requires.total_value)

pub returns : goal.returns
returns c =
    let a = c.args in
    let shaped : c.section_of.result ≡ shaped_at a.xs.now a.ys.now a.frame a.i =
    rw (c.requires.by_index a.i (omega arith), c.requires.by_index (a.i + 1) (omega arith), c.requires.total_value) at c.section_of.ensures in
    shaped ∙ sym (shaped_here a.xs.now a.ys.now a.frame a.i (sym c.is_held.ensures ∙ c.if-is_held.false))

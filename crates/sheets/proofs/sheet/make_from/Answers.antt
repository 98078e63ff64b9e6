-- What is written into a part is written from its place on.
use Rattle.table.specs.Buffers.{buffers}
use Rattle.sheets.proofs.Parts.{made_in_part}
use Rattle.sheets.proofs.sheet.make_from.Goals as goal

pub returns : goal.returns
returns c =
    let a = c.args in
    let (in_nodes, in_tags, in_slots) = c.requires in
    made_in_part a.place a.xs.now a.ys.now a.frame (buffers a.nodes.now a.tags.now a.slots.now) (record { in_nodes = in_nodes; in_tags = in_tags; in_slots = in_slots }) _
    c.make.ensures

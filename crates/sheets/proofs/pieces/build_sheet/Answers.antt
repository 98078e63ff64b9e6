-- A sheet of an accepted table is accepted, and is the whole's at its places.
use Rattle.table.specs.Buffers.{buffers}
use Rattle.sheets.specs.Pieces.{Piece}
use Rattle.sheets.proofs.InOrder.{is_piece, is_answered}
use Rattle.sheets.proofs.pieces.build_sheet.Goals as goal

pub unwrap-requires : goal.unwrap-requires
unwrap-requires c =
    let a = c.args in
    let r = c.requires in
    let p : Piece = record { from = a.from; to = a.to; left = a.left; right = a.right; start = a.start } in
    is_answered a.xs.now a.ys.now a.method (buffers a.nodes.now a.tags.now a.slots.now) r.ready p r.fair r.right_value _ c.sheet.ensures

pub returns : goal.returns
returns c =
    let a = c.args in
    let r = c.requires in
    let p : Piece = record { from = a.from; to = a.to; left = a.left; right = a.right; start = a.start } in
    is_piece a.xs.now a.ys.now a.method (buffers a.nodes.now a.tags.now a.slots.now) r.ready p r.fair r.right_value _ _ c.sheet.ensures c.unwrap.ensures

-- A line from its parts.
use mathlib.Core.Path.{refl}
use Rattle.order.proofs.Lines.{query_line}
use Rattle.order.proofs.text.put_query.Goals as goal

pub returns : goal.returns
returns c =
    let a = c.args in
    query_line a.line.refusal a.line.value a.line.primitive a.at _ _ _ _ _ _ c.put_start.ensures c.put_hex.ensures refl c.put_hex-2.ensures refl

use Rattle.std.proofs.Common.{suc, take, drop, arith}
use Rattle.std.specs.Prelude.{flat_map}
use Rattle.std.proofs.lemmas.Result.{err_from_is_err_and}
use Rattle.io_edge.proofs.Texts.{writes_stop}
use Rattle.class_text.proofs.FlatMapLemmas.{flat_map-at}
use Rattle.class_text.proofs.lines.write_items.Goals as goal

pub returns-in_err-write_item : goal.returns-in_err-write_item
returns-in_err-write_item g c =
    let p = err_from_is_err_and c.from_residual.result c.from_residual.ensures.1 in
    let items = c.args.items.now in
    let i = c.loop-item.item-index in
    let line = g.T.Line.line in
    rw (p.1, p.2) (writes_stop _ _ _ _ _ _ (flat_map line (take i items)) (line c.item-item.result) (flat_map line (drop (suc i) items)) _ _ (flat_map-at line items i c.item-item.result (omega arith) c.item-item.is) c.loop-item.invariant c.in_err-write_item.ensures)

use Rattle.std.proofs.Common.{[], ap, arith, length}
use Rattle.two_faces.proofs.ListLemmas.{row_step, rows_end}
use Rattle.two_faces.proofs.list.faces.Goals as goal

pub loop-i-preserved : goal.loop-i-preserved
loop-i-preserved c = row_step c.args.pair.now c.args.points.now c.loop-i.i [] c.loop-i.list.items c.add_faces.new.list.items c.loop-i.invariant c.in_ok-add_faces.ensures

pub returns : goal.returns
returns c =
    let e = ap length c.dual-i-end.ensures.value in
    let t = c.loop-i-test.false in
    rows_end c.args.pair.now c.args.points.now c.loop-i.i c.loop-i.list.items c.from_vec.result (omega arith) c.loop-i.invariant c.from_vec.ensures

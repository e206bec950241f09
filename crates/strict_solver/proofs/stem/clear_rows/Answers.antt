use Rattle.std.proofs.Common.{◌+◌, ◌∙◌, arith}
use Rattle.strict_solver.proofs.Parts.{row_length}
use Rattle.strict_solver.proofs.PuttingIn.{row_fits}
use Rattle.strict_solver.proofs.Stems.{next_itself}
use Rattle.strict_solver.proofs.stem.clear_rows.Goals as goal

pub loop-k-preserved : goal.loop-k-preserved
loop-k-preserved c =
    let s = c.args.columns + 2 in
    let k = c.loop-k.k in
    next_itself c.args.columns s c.args.cells.now c.loop-k.cells c.make_itself.new.row k (omega arith) c.requires.room c.loop-k.invariant
    (c.make_itself.ensures.count ∙ row_length s c.loop-k.cells k (let a = row_fits c.args.columns s k (omega arith) in let b = c.loop-k.invariant.count in let e = c.requires.room in omega arith)) c.make_itself.ensures.row

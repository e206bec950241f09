use Rattle.std.proofs.Common.{◌∙◌, ℤ, List, arith, sym, subst, length}
use Rattle.strict_solver.specs.Rows.{AreNarrow}
use Rattle.strict_solver.proofs.Parts.{row_length}
use Rattle.strict_solver.proofs.PuttingIn.{row_fits, next_put_in}
use Rattle.strict_solver.proofs.basis.put_in_rows.Goals as goal

pub put_in_row-requires-clause-row : goal.put_in_row-requires-clause-row
put_in_row-requires-clause-row c =
    let s = length c.args.line.now in
    let k = c.loop-k.k in
    let room = row_fits c.args.rows s k (omega arith) in
    let P : List ℤ → Type 0 = λ row. AreNarrow 30 row in
    subst P (sym (c.loop-k.invariant.above k (omega arith))) (c.requires.cells.each k (omega arith))

pub loop-k-preserved : goal.loop-k-preserved
loop-k-preserved c =
    let s = length c.args.line.now in
    let k = c.loop-k.k in
    let room = row_fits c.args.rows s k (omega arith) in
    next_put_in c.args.line.now c.args.column c.args.divisor.now.number s c.args.cells.now c.loop-k.cells c.put_in_row.new.row k (let a = c.requires.room in omega arith) c.loop-k.invariant
    (c.put_in_row.ensures.count ∙ row_length s c.loop-k.cells k (let a = c.requires.room in let b = c.loop-k.invariant.count in omega arith)) c.if-not-put_in_row.ensures.answer

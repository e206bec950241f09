use Rattle.std.proofs.Common.{arith}
use Rattle.strict_solver.proofs.Rows.{narrow_all}
use Rattle.strict_solver.proofs.short.are_narrow.Goals as goal

pub returns : goal.returns
returns c = narrow_all c.args.width c.args.numbers.now c.loop-number.number-index (omega arith) c.loop-number.invariant

use Rattle.std.proofs.Common.{length}
use Rattle.strict_solver.proofs.PuttingIn.{IsPuttingIn}
use Rattle.strict_solver.proofs.basis.put_in_rows.Given as goal

abbrev pub invariant-loop-k : goal.invariant-loop-k
invariant-loop-k l = IsPuttingIn l.line l.column l.divisor.number (length l.line) l.fn.cells l.cells l.k

use Rattle.std.proofs.Common.{sym, subst}
use Rattle.strict_solver.specs.Starts.{AreFoldsOver}
use Rattle.strict_solver.proofs.Uses.{one_more}
use Rattle.ntfe_run.proofs.tests.solver.folds.Goals as goal

pub loop-row-preserved : goal.loop-row-preserved
loop-row-preserved c =
    subst (λ xs. AreFoldsOver 15 xs) (sym c.in_ok-push.ensures.items) (one_more 15 c.loop-row.list.items c.in-Some.fold c.loop-row.invariant c.in-Some.ensures)

use Rattle.strict_solver.specs.Starts.{AreFoldsOver}
use Rattle.ntfe_run.proofs.tests.solver.folds.Given as goal

abbrev pub invariant-loop-row : goal.invariant-loop-row
invariant-loop-row l = AreFoldsOver 15 l.list.items

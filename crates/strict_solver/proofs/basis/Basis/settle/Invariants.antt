use Rattle.strict_solver.proofs.Settling.{IsSettling}
use Rattle.strict_solver.proofs.basis.Basis.settle.Given as goal

abbrev pub invariant-loop-move : goal.invariant-loop-move
invariant-loop-move l = IsSettling l.fn.self l.self l.folds

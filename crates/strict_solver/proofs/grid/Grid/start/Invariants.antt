use Rattle.strict_solver.proofs.Opening.{IsOpening}
use Rattle.strict_solver.proofs.grid.Grid.start.Given as goal

abbrev pub invariant-loop-r : goal.invariant-loop-r
invariant-loop-r l = IsOpening l.width l.fn.self l.self l.folds l.r

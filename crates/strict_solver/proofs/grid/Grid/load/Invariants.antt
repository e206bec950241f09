use Rattle.strict_solver.proofs.Running.{IsLoadingGrid}
use Rattle.strict_solver.proofs.grid.Grid.load.Given as goal

abbrev pub invariant-loop-height : goal.invariant-loop-height
invariant-loop-height l = IsLoadingGrid l.width l.fn.self l.self l.step l.height

use Rattle.strict_solver.specs.Grids.{lines_of}
use Rattle.strict_solver.proofs.Bases.{slack_sets}
use Rattle.strict_solver.proofs.Steps.{moves_left}
use Rattle.strict_solver.proofs.Running.{IsMovingGrid}
use Rattle.strict_solver.proofs.grid.Grid.settle.Given as goal

abbrev pub invariant-loop-leaving : goal.invariant-loop-leaving
invariant-loop-leaving l = IsMovingGrid l.width l.fn.self l.self l.fn.pivots l.step

abbrev pub decreases-loop-leaving : goal.decreases-loop-leaving
decreases-loop-leaving l = moves_left l.self.columns (slack_sets l.self.columns (lines_of l.self)) (lines_of l.self)

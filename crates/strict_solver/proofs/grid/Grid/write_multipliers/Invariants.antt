use Rattle.std.proofs.Common.{◌≡◌, ◌≤◌, length, Some, None}
use Rattle.std.specs.Prelude.{slice_index_or, vec_capacity}
use Rattle.ntfe_model.specs.Solver.{Line, multipliers_of}
use Rattle.strict_solver.specs.Grids.{lines_of}
use Rattle.strict_solver.proofs.grid.Grid.write_multipliers.Given as goal

abbrev pub invariant-loop-row : goal.invariant-loop-row
invariant-loop-row l = record {
  capacity : vec_capacity l.multipliers ≡ vec_capacity l.fn.multipliers;
  few : length l.multipliers.items ≤ l.row;
  value : (line : Line) → slice_index_or (lines_of l.self) l.slack None ≡ Some line → l.multipliers.items ≡ multipliers_of l.self.columns l.row l.slack line;
}

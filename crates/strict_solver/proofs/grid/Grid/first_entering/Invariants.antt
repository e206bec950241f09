use Rattle.std.proofs.Common.{◌≡◌, ℕ, ◌+◌, ◌<◌, false}
use Rattle.strict_solver.specs.Rows.{line_in}
use Rattle.strict_solver.specs.Grids.{row_at, lines_of}
use Rattle.strict_solver.proofs.Searches.{entering_test}
use Rattle.strict_solver.proofs.grid.Grid.first_entering.Given as goal

abbrev pub invariant-loop-y : goal.invariant-loop-y
invariant-loop-y l = (j : ℕ) → j < l.y → entering_test l.self.columns (lines_of l.self) (line_in l.self.places.items (row_at (l.self.columns + 2) l.self.cells.items l.r)) j ≡ false

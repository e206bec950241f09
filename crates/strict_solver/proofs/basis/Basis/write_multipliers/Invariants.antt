use Rattle.std.proofs.Common.{◌≡◌, ◌+◌}
use Rattle.ntfe_model.specs.Solver.{multipliers_of}
use Rattle.strict_solver.specs.Rows.{line_in}
use Rattle.strict_solver.proofs.basis.Basis.write_multipliers.Given as goal

abbrev pub invariant-loop-row : goal.invariant-loop-row
invariant-loop-row l = l.multipliers.items ≡ multipliers_of l.self.columns l.row (l.self.columns + l.slack) (line_in l.self.places.items l.self.line.items)

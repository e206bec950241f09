use Rattle.std.proofs.Common.{◌≡◌, ℕ, ◌<◌, false, not, pos}
use Rattle.std.specs.Ordering.{int_eq}
use Rattle.ntfe_model.specs.Solver.{coefficient_at}
use Rattle.strict_solver.specs.Grids.{lines_of}
use Rattle.strict_solver.proofs.Searches.{slack_test}
use Rattle.strict_solver.proofs.grid.Grid.first_with.Given as goal

abbrev pub invariant-loop-x : goal.invariant-loop-x
invariant-loop-x l = (j : ℕ) → j < l.x → slack_test l.self.columns (λ r. not (int_eq (coefficient_at r l.height) (pos 0))) (lines_of l.self) j ≡ false

use Rattle.std.proofs.Common.{◌≡◌, ℕ, ◌<◌, false, pos}
use Rattle.std.specs.Prelude.{int_lt}
use Rattle.strict_solver.specs.Grids.{lines_of}
use Rattle.strict_solver.proofs.Searches.{slack_test}
use Rattle.strict_solver.proofs.grid.Grid.first_negative.Given as goal

abbrev pub invariant-loop-x : goal.invariant-loop-x
invariant-loop-x l = (j : ℕ) → j < l.x → slack_test l.self.columns (λ r. int_lt r.c (pos 0)) (lines_of l.self) j ≡ false

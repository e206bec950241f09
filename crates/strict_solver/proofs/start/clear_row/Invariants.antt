use Rattle.std.proofs.Common.{◌≡◌, ℕ, ◌<◌, pos}
use Rattle.strict_solver.specs.Rows.{number}
use Rattle.strict_solver.proofs.start.clear_row.Given as goal

abbrev pub invariant-loop-number : goal.invariant-loop-number
invariant-loop-number l = (k : ℕ) → k < l.number-index → number l.row k ≡ pos 0

use Rattle.std.proofs.Common.{◌≡◌, ℕ, ◌<◌, length, pos}
use Rattle.strict_solver.specs.Rows.{number}
use Rattle.strict_solver.proofs.stem.make_itself.Given as goal

abbrev pub invariant-loop-number : goal.invariant-loop-number
invariant-loop-number l = (length l.row ≡ length l.fn.row) × ((k : ℕ) → k < l.number-index → number l.row k ≡ pos 0)

use Rattle.std.proofs.Common.{◌≡◌, ℕ, ◌<◌, ◌≤◌, length, neg_ℤ}
use Rattle.strict_solver.specs.Rows.{number}
use Rattle.strict_solver.proofs.row.negate.Given as goal

abbrev pub invariant-loop-number : goal.invariant-loop-number
invariant-loop-number l =
    (length l.row ≡ length l.fn.row)
    × ((k : ℕ) → k < l.number-index → number l.row k ≡ neg_ℤ (number l.fn.row k))
    × ((k : ℕ) → l.number-index ≤ k → number l.row k ≡ number l.fn.row k)

use Rattle.std.proofs.Common.{◌≡◌, ℕ, ◌<◌, ◌≤◌, ◌*ℤ◌, length}
use Rattle.strict_solver.specs.Rows.{number}
use Rattle.strict_solver.proofs.short.divide.Given as goal

abbrev pub invariant-loop-number : goal.invariant-loop-number
invariant-loop-number l =
    (length l.numbers ≡ length l.fn.numbers)
    × ((k : ℕ) → k < l.number-index → l.fn.divisor *ℤ number l.numbers k ≡ number l.fn.numbers k)
    × ((k : ℕ) → l.number-index ≤ k → number l.numbers k ≡ number l.fn.numbers k)

use Rattle.std.proofs.Common.{◌≡◌, ℕ, ◌^◌, ◌<◌, ◌≤◌, ◌+ℤ◌, ◌*ℤ◌, length, unsigned_abs}
use Rattle.strict_solver.specs.Rows.{number}
use Rattle.strict_solver.proofs.short.mix.Given as goal

abbrev pub invariant-loop-k : goal.invariant-loop-k
invariant-loop-k l =
    (length l.row ≡ length l.fn.row)
    × ((j : ℕ) → j < l.k → number l.row j ≡ number l.fn.row j *ℤ l.shares.row +ℤ l.shares.pivot *ℤ number l.pivot j)
    × ((j : ℕ) → j < l.k → unsigned_abs (number l.row j) < 2 ^ 63)
    × ((j : ℕ) → l.k ≤ j → number l.row j ≡ number l.fn.row j)

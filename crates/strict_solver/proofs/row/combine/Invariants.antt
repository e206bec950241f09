use Rattle.std.proofs.Common.{◌≡◌, ℕ, ◌^◌, ◌<◌, ◌*ℤ◌, ◌+ℤ◌, length, unsigned_abs}
use Rattle.strict_solver.specs.Rows.{number}
use Rattle.strict_solver.proofs.row.combine.Given as goal

abbrev pub invariant-loop-k : goal.invariant-loop-k
invariant-loop-k l =
    (length l.out ≡ length l.row)
    × ((j : ℕ) → j < l.k → number l.out j ≡ number l.row j *ℤ l.pivot.denominator +ℤ l.fn.factor *ℤ number l.pivot.numbers.items j)
    × ((j : ℕ) → j < l.k → unsigned_abs (number l.out j) < 2 ^ 126)

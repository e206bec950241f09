use Rattle.std.proofs.Common.{◌≡◌, ℕ, ◌^◌, ◌<◌, ◌≤◌, ◌-ℤ◌, ◌*ℤ◌, length, unsigned_abs}
use Rattle.strict_solver.specs.Rows.{number}
use Rattle.strict_solver.proofs.basis.mix.Given as goal

abbrev pub invariant-loop-k : goal.invariant-loop-k
invariant-loop-k l = record {
  count : length l.row ≡ length l.fn.row;
  below : (j : ℕ) → j < l.k → l.divisor.number *ℤ number l.row j ≡ l.times *ℤ number l.fn.row j -ℤ l.factor *ℤ number l.line j;
  small : (j : ℕ) → unsigned_abs (number l.row j) < 2 ^ 30;
  above : (j : ℕ) → l.k ≤ j → number l.row j ≡ number l.fn.row j;
}

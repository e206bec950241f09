use Rattle.std.proofs.Common.{◌≡◌, ℕ, ◌+◌, ◌<◌, ◌^◌, length, unsigned_abs}
use Rattle.strict_solver.specs.Rows.{number}
use Rattle.strict_solver.specs.Grids.{row_at}
use Rattle.strict_solver.proofs.answering.gather.Given as goal

abbrev pub invariant-loop-k : goal.invariant-loop-k
invariant-loop-k l = record {
  count : length l.out ≡ length l.fn.out;
  first : number l.out 0 ≡ l.fn.denominator;
  each : (j : ℕ) → j < l.k → number l.out (j + 1) ≡ number (row_at (l.fn.rows + 2) l.fn.cells j) 1;
  small : (j : ℕ) → j < l.k + 1 → unsigned_abs (number l.out j) < 2 ^ 30;
}

use Rattle.std.proofs.Common.{◌≡◌, ℕ, ◌<◌, ◌^◌, length, unsigned_abs}
use Rattle.strict_solver.specs.Rows.{number}
use Rattle.strict_solver.specs.Grids.{row_at}
use Rattle.strict_solver.specs.Standing.{fold_sum}
use Rattle.strict_solver.proofs.basis.write_fold_of_rows.Given as goal

abbrev pub invariant-loop-k : goal.invariant-loop-k
invariant-loop-k l = record {
  count : length l.line ≡ length l.fn.line;
  each : (p : ℕ) → p < l.k → number l.line p ≡ fold_sum (λ k. number (row_at (length l.fn.line) l.fn.cells k) p) l.fn.fold;
  small : (p : ℕ) → p < l.k → unsigned_abs (number l.line p) < 2 ^ 30;
}

use Rattle.std.proofs.Common.{◌≡◌, ℕ, ◌<◌, ◌^◌, length, unsigned_abs}
use Rattle.strict_solver.specs.Grids.{lines_of}
use Rattle.strict_solver.specs.Rows.{number}
use Rattle.strict_solver.specs.Scales.{heights_by}
use Rattle.strict_solver.proofs.grid.Grid.scale_heights.Given as goal

abbrev pub invariant-loop-k : goal.invariant-loop-k
invariant-loop-k l = record {
  count : length l.heights ≡ l.self.columns;
  done : (i : ℕ) → i < l.k → number l.heights i ≡ number (heights_by l.self.columns l.fn.scale (lines_of l.self)) i;
  narrow : (i : ℕ) → i < l.k → unsigned_abs (number (heights_by l.self.columns l.fn.scale (lines_of l.self)) i) < 2 ^ l.width;
}

use Rattle.std.proofs.Common.{◌≡◌, length}
use Rattle.strict_solver.proofs.Elimination.{Eliminating}
use Rattle.strict_solver.proofs.grid.eliminate_rows.Given as goal

abbrev pub invariant-loop-place : goal.invariant-loop-place
invariant-loop-place l = record {
  scratch : length l.scratch ≡ length l.fn.scratch;
  kept : length l.cells ≡ length l.fn.cells;
  rows : Eliminating l.width (length l.fn.scratch) l.places l.pivot l.fn.cells l.cells l.place-index;
}

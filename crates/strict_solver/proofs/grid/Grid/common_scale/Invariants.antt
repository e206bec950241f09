use Rattle.std.proofs.Common.{◌≡◌, ℕ, ◌<◌, ◌≤◌, ◌^◌}
use Rattle.strict_solver.specs.Grids.{lines_of}
use Rattle.strict_solver.specs.Scales.{scale_to}
use Rattle.strict_solver.proofs.grid.Grid.common_scale.Given as goal

abbrev pub invariant-loop-k : goal.invariant-loop-k
invariant-loop-k l = record {
  is : l.scale ≡ scale_to (lines_of l.self) l.k;
  positive : 0 < l.scale;
  narrow : (i : ℕ) → i ≤ l.k → scale_to (lines_of l.self) i < 2 ^ l.width;
}

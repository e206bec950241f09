use Rattle.std.proofs.Common.{◌+◌}
use Rattle.strict_solver.proofs.Stems.{AreMadeThemselves}
use Rattle.strict_solver.proofs.stem.clear_rows.Given as goal

abbrev pub invariant-loop-k : goal.invariant-loop-k
invariant-loop-k l = AreMadeThemselves (l.fn.columns + 2) l.fn.cells l.cells l.k

use Rattle.std.proofs.Common.{◌≡◌}
use Rattle.strict_solver.specs.declared.stem.Pushed.TheVariants.{Feasible}
use Rattle.node_probe.specs.Stems.{IsLastAfter}
use Rattle.node_probe.proofs.stems.Stems.extend.Given as goal

abbrev pub invariant-loop-row : goal.invariant-loop-row
invariant-loop-row l = (l.self.columns ≡ l.fn.self.columns) × IsLastAfter l.self l.folds l.row Feasible

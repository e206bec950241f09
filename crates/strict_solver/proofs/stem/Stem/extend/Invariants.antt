use Rattle.std.proofs.Common.{◌≡◌, take, Some}
use Rattle.strict_solver.proofs.stem.Stem.extend.Given as goal

abbrev pub invariant-loop-k : goal.invariant-loop-k
invariant-loop-k l = (l.self.columns ≡ l.fn.self.columns) × (l.self.folds ≡ Some (take l.k l.folds))

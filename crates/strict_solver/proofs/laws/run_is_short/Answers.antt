use Rattle.strict_solver.proofs.Lengths.{run_short}
use Rattle.strict_solver.proofs.laws.run_is_short.Goals as goal

pub returns : goal.returns
returns c = run_short

use Rattle.strict_solver.proofs.Ending.{comes_to_end}
use Rattle.strict_solver.proofs.laws.run_ends.Goals as goal

pub returns : goal.returns
returns c = comes_to_end

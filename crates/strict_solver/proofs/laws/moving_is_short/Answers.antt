use Rattle.strict_solver.proofs.Lengths.{moving_short}
use Rattle.strict_solver.proofs.laws.moving_is_short.Goals as goal

pub returns : goal.returns
returns c = moving_short

use Rattle.std.proofs.Common.{ℕ, ◌<◌}
use Rattle.ntfe_model.specs.Reflexive.{at, IsTightOnFour}
use Rattle.reflexive_pair.proofs.tight.first_tight_on_no_four.Given as goal

abbrev pub invariant-loop-i : goal.invariant-loop-i
invariant-loop-i l = (k : ℕ) → k < l.i → IsTightOnFour (at l.tips k) l.list

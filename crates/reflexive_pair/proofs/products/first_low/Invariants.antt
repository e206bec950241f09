use Rattle.std.proofs.Common.{ℕ, ◌<◌, length}
use Rattle.ntfe_model.specs.Reflexive.{at}
use Rattle.reflexive_pair.specs.Firsts.{IsHighBelow}
use Rattle.reflexive_pair.proofs.products.first_low.Given as goal

abbrev pub invariant-loop-i : goal.invariant-loop-i
invariant-loop-i l = (k : ℕ) → k < l.i → IsHighBelow (at l.vertices k) l.dual (length l.dual)

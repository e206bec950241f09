use Rattle.ntfe_model.specs.TightBits.{AreTightBits}
use Rattle.ntfe_model.proofs.tight.tight_bits.Given as goal

abbrev pub invariant-loop-k : goal.invariant-loop-k
invariant-loop-k l = AreTightBits l.x l.dual l.k l.bits

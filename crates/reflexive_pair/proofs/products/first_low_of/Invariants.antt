use Rattle.reflexive_pair.specs.Firsts.{IsHighBelow}
use Rattle.reflexive_pair.proofs.products.first_low_of.Given as goal

abbrev pub invariant-loop-j : goal.invariant-loop-j
invariant-loop-j l = IsHighBelow l.v l.dual l.j

use Rattle.reflexive_pair.specs.Firsts.{DiffersBelow}
use Rattle.reflexive_pair.proofs.repeats.first_repeat_of.Given as goal

abbrev pub invariant-loop-j : goal.invariant-loop-j
invariant-loop-j l = DiffersBelow l.list l.i l.j

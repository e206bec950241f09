use Rattle.std.proofs.Common.{take}
use Rattle.ntfe_nums.specs.Vectors.{vector}
use Rattle.reflexive_pair.specs.Sides.{NoneBelow}
use Rattle.reflexive_pair.proofs.planes.has_none_below.Given as goal

abbrev pub invariant-loop-x : goal.invariant-loop-x
invariant-loop-x l = NoneBelow (vector l.n) l.a (take l.x-index l.list)

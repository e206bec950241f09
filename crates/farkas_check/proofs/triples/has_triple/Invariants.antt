use Rattle.std.proofs.Common.{take}
use Rattle.farkas_check.specs.Folds.{HasTriple}
use Rattle.farkas_check.proofs.triples.has_triple.Given as goal

abbrev pub invariant-loop-t : goal.invariant-loop-t
invariant-loop-t l = ¬ (HasTriple (take l.t-index l.triangles) l.a l.b l.c)

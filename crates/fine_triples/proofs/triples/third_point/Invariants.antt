use Rattle.std.proofs.Common.{ℕ, ◌<◌, get_or}
use Rattle.ntfe_model.specs.Triangulations.{HasSide}
use Rattle.ntfe_model.specs.declared.triangle.Triangle.{Triangle}
use Rattle.fine_triples.proofs.triples.third_point.Given as goal

abbrev pub invariant-loop-triple : goal.invariant-loop-triple
invariant-loop-triple l = (k : ℕ) (t : Triangle) → k < l.triple-index → ¬ (HasSide (get_or l.triples k t) l.x l.y)

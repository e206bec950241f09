use Rattle.std.proofs.Common.{ℕ, ◌<◌, get_or}
use Rattle.ntfe_model.specs.declared.triangle.Triangle.{Triangle}
use Rattle.fine_triples.specs.FineConditions.{OnSides, KeepsApart}
use Rattle.fine_triples.proofs.crossings.all_keep_apart.Given as goal

abbrev pub invariant-loop-triple : goal.invariant-loop-triple
invariant-loop-triple l = (k : ℕ) (t : Triangle) → k < l.triple-index → OnSides (KeepsApart l.chart l.triples) (get_or l.triples k t)

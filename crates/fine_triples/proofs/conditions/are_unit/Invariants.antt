use Rattle.std.proofs.Common.{ℕ, ◌<◌, get_or}
use Rattle.ntfe_model.specs.declared.triangle.Triangle.{Triangle}
use Rattle.fine_triples.specs.FineConditions.{IsUnitTriple}
use Rattle.fine_triples.proofs.conditions.are_unit.Given as goal

abbrev pub invariant-loop-triple : goal.invariant-loop-triple
invariant-loop-triple l = (k : ℕ) (t : Triangle) → k < l.triple-index → IsUnitTriple l.chart (get_or l.triples k t)

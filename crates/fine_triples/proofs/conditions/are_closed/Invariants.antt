use Rattle.std.proofs.Common.{ℕ, ◌<◌, get_or}
use Rattle.ntfe_model.specs.declared.triangle.Triangle.{Triangle}
use Rattle.fine_triples.specs.FineConditions.{OnSides, IsClosed}
use Rattle.fine_triples.proofs.conditions.are_closed.Given as goal

abbrev pub invariant-loop-one : goal.invariant-loop-one
invariant-loop-one l = (k : ℕ) (t : Triangle) → k < l.one-index → OnSides (IsClosed l.triples l.boundary) (get_or l.triples k t)

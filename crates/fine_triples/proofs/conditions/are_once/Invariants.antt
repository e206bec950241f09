use Rattle.std.proofs.Common.{ℕ, ◌<◌, get_or}
use Rattle.ntfe_model.specs.declared.triangle.Triangle.{Triangle}
use Rattle.fine_triples.specs.FineConditions.{IsOnceAmong}
use Rattle.fine_triples.proofs.conditions.are_once.Given as goal

abbrev pub invariant-loop-one : goal.invariant-loop-one
invariant-loop-one l = (k : ℕ) (t : Triangle) → k < l.one-index → IsOnceAmong l.triples (get_or l.triples k t)

use Rattle.std.proofs.Common.{ℕ, ◌<◌, get_or}
use Rattle.ntfe_model.specs.declared.triangle.Triangle.{Triangle}
use Rattle.fine_triples.specs.FineConditions.{IsOnceBeside}
use Rattle.fine_triples.proofs.conditions.is_once_among.Given as goal

abbrev pub invariant-loop-other : goal.invariant-loop-other
invariant-loop-other l = (k : ℕ) (t : Triangle) → k < l.other-index → IsOnceBeside l.one (get_or l.triples k t)

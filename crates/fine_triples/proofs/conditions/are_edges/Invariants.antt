use Rattle.std.proofs.Common.{ℕ, ◌<◌, get_or}
use Rattle.fine_triples.specs.FineConditions.{IsEdge}
use Rattle.fine_triples.proofs.conditions.are_edges.Given as goal

abbrev pub invariant-loop-step : goal.invariant-loop-step
invariant-loop-step l = (k : ℕ) (e : ℕ × ℕ) → k < l.step-index → IsEdge l.triples (get_or l.boundary k e)

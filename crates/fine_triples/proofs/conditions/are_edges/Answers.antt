use Rattle.fine_triples.specs.FineConditions.{IsEdge}
use Rattle.fine_triples.proofs.Passed.{passed_more, passed_not}
use Rattle.fine_triples.proofs.conditions.are_edges.Goals as goal

pub loop-step-preserved : goal.loop-step-preserved
loop-step-preserved c = passed_more (IsEdge c.args.triples.now) c.args.boundary.now c.loop-step.step-index _ c.loop-step-test.true c.loop-step.invariant (c.is_edge.ensures.0 c.if-not-is_edge.false)

pub returns-then-not-is_edge : goal.returns-then-not-is_edge
returns-then-not-is_edge c = passed_not (IsEdge c.args.triples.now) c.args.boundary.now c.loop-step.step-index _ c.is_edge.result c.loop-step-test.true c.if-not-is_edge.true c.is_edge.ensures.1

use Rattle.fine_triples.specs.FineConditions.{OnSides, IsClosed}
use Rattle.fine_triples.proofs.Passed.{passed_more, passed_not}
use Rattle.fine_triples.proofs.conditions.are_closed.Goals as goal

pub loop-one-preserved : goal.loop-one-preserved
loop-one-preserved c = passed_more (OnSides (IsClosed c.args.triples.now c.args.boundary.now)) c.args.triples.now c.loop-one.one-index _ c.loop-one-test.true c.loop-one.invariant (c.is_closed_triple.ensures.0 c.if-not-is_closed_triple.false)

pub returns-then-not-is_closed_triple : goal.returns-then-not-is_closed_triple
returns-then-not-is_closed_triple c = passed_not (OnSides (IsClosed c.args.triples.now c.args.boundary.now)) c.args.triples.now c.loop-one.one-index _ c.is_closed_triple.result c.loop-one-test.true c.if-not-is_closed_triple.true c.is_closed_triple.ensures.1

use Rattle.fine_triples.specs.FineConditions.{IsOnceAmong}
use Rattle.fine_triples.proofs.Passed.{passed_more, passed_not}
use Rattle.fine_triples.proofs.conditions.are_once.Goals as goal

pub loop-one-preserved : goal.loop-one-preserved
loop-one-preserved c = passed_more (IsOnceAmong c.args.triples.now) c.args.triples.now c.loop-one.one-index _ c.loop-one-test.true c.loop-one.invariant (c.is_once_among.ensures.0 c.if-not-is_once_among.false)

pub returns-then-not-is_once_among : goal.returns-then-not-is_once_among
returns-then-not-is_once_among c = passed_not (IsOnceAmong c.args.triples.now) c.args.triples.now c.loop-one.one-index _ c.is_once_among.result c.loop-one-test.true c.if-not-is_once_among.true c.is_once_among.ensures.1

use Rattle.fine_triples.specs.FineConditions.{OnSides, KeepsApart}
use Rattle.fine_triples.proofs.Passed.{passed_more, passed_not, passed_all}
use Rattle.fine_triples.proofs.crossings.all_keep_apart.Goals as goal

pub loop-triple-preserved : goal.loop-triple-preserved
loop-triple-preserved c = passed_more (OnSides (KeepsApart c.args.chart.now c.args.triples.now)) c.args.triples.now c.loop-triple.triple-index _ c.loop-triple-test.true c.loop-triple.invariant (c.sides_keep_apart.ensures.0 c.if-not-sides_keep_apart.false)

pub returns-then-not-sides_keep_apart : goal.returns-then-not-sides_keep_apart
returns-then-not-sides_keep_apart c = passed_not (OnSides (KeepsApart c.args.chart.now c.args.triples.now)) c.args.triples.now c.loop-triple.triple-index _ c.sides_keep_apart.result c.loop-triple-test.true c.if-not-sides_keep_apart.true c.sides_keep_apart.ensures.1

pub returns : goal.returns
returns c = passed_all (OnSides (KeepsApart c.args.chart.now c.args.triples.now)) c.args.triples.now c.loop-triple.triple-index c.loop-triple-test.false c.loop-triple.invariant

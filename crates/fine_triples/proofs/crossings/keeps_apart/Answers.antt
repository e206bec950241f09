use Rattle.fine_triples.specs.FineConditions.{OnSides, KeepApart}
use Rattle.fine_triples.proofs.Passed.{passed_more}
use Rattle.fine_triples.proofs.crossings.keeps_apart.Goals as goal

pub loop-triple-preserved : goal.loop-triple-preserved
loop-triple-preserved c =
    passed_more (OnSides (KeepApart c.args.chart.now c.args.side.0 c.args.side.1)) c.args.triples.now c.loop-triple.triple-index _ c.loop-triple-test.true c.loop-triple.invariant
    (c.keeps_apart_beside.ensures.0 c.if-not-keeps_apart_beside.false)

use Rattle.fine_triples.specs.FineConditions.{IsUnitTriple}
use Rattle.fine_triples.proofs.Passed.{passed_more, passed_not}
use Rattle.fine_triples.proofs.conditions.are_unit.Goals as goal

pub loop-triple-preserved : goal.loop-triple-preserved
loop-triple-preserved c = passed_more (IsUnitTriple c.args.chart.now) c.args.triples.now c.loop-triple.triple-index _ c.loop-triple-test.true c.loop-triple.invariant (c.is_unit.ensures.0 c.if-not-is_unit.false)

pub returns-then-not-is_unit : goal.returns-then-not-is_unit
returns-then-not-is_unit c = passed_not (IsUnitTriple c.args.chart.now) c.args.triples.now c.loop-triple.triple-index _ c.is_unit.result c.loop-triple-test.true c.if-not-is_unit.true c.is_unit.ensures.1

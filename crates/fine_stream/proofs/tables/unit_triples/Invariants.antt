use Rattle.fine_stream.specs.Places.{AreUnit}
use Rattle.fine_stream.proofs.tables.unit_triples.Given as goal

abbrev pub invariant-loop-a : goal.invariant-loop-a
invariant-loop-a l = AreUnit l.chart l.triples.items

use Rattle.fine_stream.specs.Places.{AreUnit}
use Rattle.fine_stream.proofs.tables.add_triples_from.Given as goal

abbrev pub invariant-loop-b : goal.invariant-loop-b
invariant-loop-b l = AreUnit l.chart l.triples.items

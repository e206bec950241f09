use Rattle.fine_stream.specs.Places.{AreUnit}
use Rattle.fine_stream.proofs.tables.add_triples.Given as goal

abbrev pub invariant-loop-c : goal.invariant-loop-c
invariant-loop-c l = AreUnit l.chart l.triples.items

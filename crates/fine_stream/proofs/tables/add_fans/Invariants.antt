use Rattle.std.specs.Prelude.{All}
use Rattle.fine_stream.specs.Places.{IsFan}
use Rattle.fine_stream.proofs.tables.add_fans.Given as goal

abbrev pub invariant-loop-b : goal.invariant-loop-b
invariant-loop-b l = All (IsFan l.chart l.triples) l.fans.items

use Rattle.std.specs.Prelude.{All}
use Rattle.fine_stream.specs.Places.{IsFan}
use Rattle.fine_stream.proofs.tables.fans_of.Given as goal

abbrev pub invariant-loop-a : goal.invariant-loop-a
invariant-loop-a l = All (IsFan l.chart l.triples) l.fans.items

use Rattle.std.proofs.Common.{take}
use Rattle.fine_stream.specs.Places.{AreFirstCandidates}
use Rattle.fine_stream.proofs.tables.candidates_of.Given as goal

abbrev pub invariant-loop-c : goal.invariant-loop-c
invariant-loop-c l = AreFirstCandidates l.chart l.triples l.a l.b (take l.c-index l.c-items) l.candidates.items

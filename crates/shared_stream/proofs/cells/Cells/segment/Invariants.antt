use Rattle.shared_stream.specs.Hands.{IsHanded}
use Rattle.shared_stream.proofs.cells.Cells.segment.Given as goal

abbrev pub invariant-loop-at : goal.invariant-loop-at
invariant-loop-at l = IsHanded l.self l.at l.handed

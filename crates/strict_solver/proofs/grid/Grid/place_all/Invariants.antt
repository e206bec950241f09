use Rattle.strict_solver.proofs.PlacingAll.{IsPlacedTo}
use Rattle.strict_solver.proofs.grid.Grid.place_all.Given as goal

abbrev pub invariant-loop-k : goal.invariant-loop-k
invariant-loop-k l = IsPlacedTo l.fn.self l.self l.k 0

abbrev pub invariant-loop-r : goal.invariant-loop-r
invariant-loop-r l = IsPlacedTo l.fn.self l.self l.fn.self.columns l.r

use Rattle.strict_solver.specs.Stems.{ArePlacedHeights}
use Rattle.strict_solver.proofs.stem.place_heights.Given as goal

abbrev pub invariant-loop-k : goal.invariant-loop-k
invariant-loop-k l = ArePlacedHeights l.k l.places.items

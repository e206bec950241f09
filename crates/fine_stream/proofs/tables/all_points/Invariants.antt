use Rattle.std.proofs.Common.{ℕ, ◌≤◌, List, take, length}
use Rattle.ntfe_model.specs.declared.triangle.Triangle.{Triangle}
use Rattle.fine_stream.specs.Places.{AreFirstCandidates}
use Rattle.fine_stream.proofs.tables.all_points.Given as goal

abbrev pub invariant-loop-point : goal.invariant-loop-point
invariant-loop-point l = (triples : List Triangle) (a b : ℕ) → length triples ≤ l.place → AreFirstCandidates l.chart triples a b (take l.point-index l.point-items) l.all.items

use Rattle.std.proofs.Common.{take}
use Rattle.ntfe_model.specs.Triangulations.{IsSide}
use Rattle.fold_rows.proofs.sides.third_point.Given as goal

abbrev pub invariant-loop-t : goal.invariant-loop-t
invariant-loop-t l = ¬ (IsSide (take l.t-index l.triangles) l.a l.b)

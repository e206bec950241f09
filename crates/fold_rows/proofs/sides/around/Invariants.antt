use Rattle.std.proofs.Common.{take}
use Rattle.fold_rows.specs.Rows.{AreAround}
use Rattle.fold_rows.proofs.sides.around.Given as goal

abbrev pub invariant-loop-t : goal.invariant-loop-t
invariant-loop-t l = AreAround (take l.t-index l.triangles) l.a l.near.items

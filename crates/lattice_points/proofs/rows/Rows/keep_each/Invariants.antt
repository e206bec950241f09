use Rattle.lattice_points.proofs.RowLemmas.{AreKept}
use Rattle.lattice_points.proofs.rows.Rows.keep_each.Given as goal

abbrev pub invariant-loop-x3 : goal.invariant-loop-x3
invariant-loop-x3 l = AreKept l.sums l.fn.x1 l.fn.second l.fn.third l.x3 l.self.extents.items

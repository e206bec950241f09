use Rattle.std.proofs.Common.{List, subst}
use Rattle.ntfe_nums.specs.Vectors.{Vector}
use Rattle.lattice_points.specs.Inequalities.{AreSums}
use Rattle.lattice_points.proofs.scan.scan_all.Goals as goal

pub scan_box-requires-clause-sums : goal.scan_box-requires-clause-sums
scan_box-requires-clause-sums c =
    let P : List Vector → Type 0 = λ ms. AreSums ms c.in_ok-sums.sums in
    subst P c.dual.ensures.value c.in_ok-sums.ensures

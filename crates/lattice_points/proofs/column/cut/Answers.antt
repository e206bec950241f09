use Rattle.std.proofs.Common.{w64, to_z, of_z, to_z-of_z}
use Rattle.lattice_points.proofs.CutLemmas.{cut_same}
use Rattle.lattice_points.proofs.column.cut.Goals as goal

pub returns-then-slope-lt0-clause-value : goal.returns-then-slope-lt0-clause-value
returns-then-slope-lt0-clause-value c =
    let a = c.args in
    cut_same c.cut_above.result a.left a.level a.slope (to_z w64 (of_z w64 a.level)) (to_z w64 (of_z w64 a.slope)) (to_z-of_z c.ranges.level) (to_z-of_z c.ranges.slope) c.cut_above.ensures.value

pub returns-else-slope-lt0-clause-value : goal.returns-else-slope-lt0-clause-value
returns-else-slope-lt0-clause-value c =
    let a = c.args in
    cut_same c.cut_below.result a.left a.level a.slope (to_z w64 (of_z w64 a.level)) (to_z w64 (of_z w64 a.slope)) (to_z-of_z c.ranges.level) (to_z-of_z c.ranges.slope) c.cut_below.ensures.value

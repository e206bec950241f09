use Rattle.std.proofs.Common.{List, ℤ, subst, to_z-of_z}
use Rattle.std.specs.Prelude.{OnOk}
use Rattle.ntfe_nums.specs.Vectors.{Vector}
use Rattle.lattice_points.specs.Boxes.{IsWithin, IsInSome}
use Rattle.lattice_points.specs.Lines.{IsOpen}
use Rattle.lattice_points.specs.Inequalities.{AreSums}
use Rattle.lattice_points.specs.Scans.{IsOnPlane}
use Rattle.lattice_points.proofs.rows.Rows.go_to.Goals as goal

pub returns-then-is_longer-clause-reach : goal.returns-then-is_longer-clause-reach
returns-then-is_longer-clause-reach c =
    let a = c.args in
    let rows = c.keep_each.new.self.extents.items in
    let P : ℤ → Type 0 = λ y. OnOk c.keep_each.result ((ms : List Vector) (x : Vector) → AreSums ms a.sums.now → IsOpen ms x → IsOnPlane y x → IsWithin a.second x.x2 → IsWithin a.third x.x3 → IsInSome rows x.x2) in
    subst P (to_z-of_z c.ranges.x1) c.keep_each.ensures.reach

use Rattle.std.proofs.Common.{◌∙◌, sym, w64, to_z, of_z, to_z-of_z}
use Rattle.lattice_points.proofs.RowLemmas.{kept_more, kept_all}
use Rattle.lattice_points.proofs.rows.Rows.keep_each.Goals as goal

pub loop-x3-preserved : goal.loop-x3-preserved
loop-x3-preserved c =
    let a = c.args in
    kept_more a.sums.now (to_z w64 (of_z w64 a.x1)) a.second a.third c.requires.third (to_z w64 c.loop-x3.x3-bits) c.row_extent.result c.loop-x3.self.extents.items c.keep.new.self.extents.items c.loop-x3-test.true
    c.row_extent.ensures.inside c.in_ok-keep.ensures.kept c.in_ok-keep.ensures.added (c.in_ok-keep.ensures.size c.loop-x3.invariant.short) c.loop-x3.invariant

pub returns-clause-reach : goal.returns-clause-reach
returns-clause-reach c = λ ms x all o f w2 w3.
    let a = c.args in
    kept_all a.sums.now (to_z w64 (of_z w64 a.x1)) a.second a.third c.requires.third (to_z w64 c.loop-x3.x3-bits) c.loop-x3.self.extents.items c.loop-x3-test.false c.loop-x3.invariant
    ms x all o (f ∙ sym (to_z-of_z c.ranges.x1)) w2 w3

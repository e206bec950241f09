use Rattle.std.proofs.Common.{◌∙◌, sym, w64, to_z, of_z, to_z-of_z}
use Rattle.std.proofs.lemmas.List.Elements.{Contains-get_or}
use Rattle.lattice_points.specs.Scans.{IsOnRow}
use Rattle.lattice_points.proofs.CutLemmas.{cut_same}
use Rattle.lattice_points.proofs.InequalityLemmas.{narrowed_first, row_more, third_short, slope_back, level_back}
use Rattle.lattice_points.proofs.sums.Sums.row_extent.Goals as goal

pub loop-sum-init : goal.loop-sum-init
loop-sum-init c = narrowed_first c.args.self.now (IsOnRow (to_z w64 (of_z w64 c.args.x1)) (to_z w64 (of_z w64 c.args.x3))) (λ v. v.x2) c.args.extent c.requires.extent

pub loop-sum-preserved : goal.loop-sum-preserved
loop-sum-preserved c =
    let s = c.args.self.now in
    let ss = c.as_slice-sum-items.result.now in
    let q = c.as_slice-sum-items.ensures.value in
    let k = Contains-get_or ss c.loop-sum.sum-index _ c.loop-sum-test.true in
    row_more s ss _ (to_z w64 (of_z w64 c.args.x1)) (to_z w64 (of_z w64 c.args.x3)) c.row_level.result c.args.extent c.loop-sum.left c.cut-left.result q k c.row_level.ensures.value
    (cut_same c.cut-left.result c.loop-sum.left c.row_level.result _ _ _ (level_back c.row_level.result c.row_level.ensures.size.0) (slope_back _ (third_short s ss _ q k c.requires.sums).1.0) c.cut-left.ensures.value)
    c.cut-left.ensures.size c.loop-sum.invariant

pub returns-after-loop-sum-clause-inside : goal.returns-after-loop-sum-clause-inside
returns-after-loop-sum-clause-inside c = λ ms x all o f w. c.loop-sum.invariant.inside ms x all o (f.0 ∙ sym (to_z-of_z c.ranges.x1), f.1 ∙ sym (to_z-of_z c.ranges.x3)) w

pub returns-then-left-clause-inside : goal.returns-then-left-clause-inside
returns-then-left-clause-inside c = λ ms x all o f w. c.loop-sum.invariant.inside ms x all o (f.0 ∙ sym (to_z-of_z c.ranges.x1), f.1 ∙ sym (to_z-of_z c.ranges.x3)) w

use Rattle.std.proofs.Common.{◌∙◌, sym, w64, to_z, of_z, to_z-of_z}
use Rattle.std.proofs.lemmas.List.Elements.{Contains-get_or}
use Rattle.lattice_points.specs.Scans.{IsOnPlane}
use Rattle.lattice_points.proofs.CutLemmas.{cut_same}
use Rattle.lattice_points.proofs.InequalityLemmas.{narrowed_first, second_more, second_short, slope_back, level_back}
use Rattle.lattice_points.proofs.sums.Sums.second_extent.Goals as goal

pub loop-sum-init : goal.loop-sum-init
loop-sum-init c = narrowed_first c.args.self.now (IsOnPlane (to_z w64 (of_z w64 c.args.x1))) (λ v. v.x2) c.args.extent c.requires.extent

pub loop-sum-preserved : goal.loop-sum-preserved
loop-sum-preserved c =
    let s = c.args.self.now in
    let ss = c.as_slice-sum-items.result.now in
    let q = c.as_slice-sum-items.ensures.value in
    let k = Contains-get_or ss c.loop-sum.sum-index _ c.loop-sum-test.true in
    second_more s ss _ (to_z w64 (of_z w64 c.args.x1)) c.level.result c.args.extent c.loop-sum.left c.cut-left.result q k c.level.ensures.value
    (cut_same c.cut-left.result c.loop-sum.left c.level.result _ _ _ (level_back c.level.result c.level.ensures.size.0) (slope_back _ (second_short s ss _ q k c.requires.sums).1.0) c.cut-left.ensures.value)
    c.cut-left.ensures.size c.loop-sum.invariant

pub returns-clause-inside : goal.returns-clause-inside
returns-clause-inside c = λ ms x all o f w. c.loop-sum.invariant.inside ms x all o (f ∙ sym (to_z-of_z c.ranges.x1)) w

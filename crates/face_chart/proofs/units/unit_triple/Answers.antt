use Rattle.std.proofs.Common.{ℕ}
use Rattle.std.proofs.lemmas.List.Elements.{All-contains}
use Rattle.ntfe_model.specs.Charts.{spot_numbers, IsUnit}
use Rattle.face_chart.proofs.UnitLemmas.{kept_more, kept_all}
use Rattle.face_chart.proofs.units.unit_triple.Goals as goal

pub loop-a-preserved : goal.loop-a-preserved
loop-a-preserved c =
    let g = c.args.table.now in
    let P : ℕ → Type 0 = λ i. (j k : ℕ) → ¬ (IsUnit g i j k) in
    kept_more P c.points-a-items.result.now (spot_numbers g) c.loop-a.a-index c.points-a-items.ensures c.loop-a-test.true c.loop-a.invariant c.in_default.ensures

pub returns : goal.returns
returns c =
    let g = c.args.table.now in
    let P : ℕ → Type 0 = λ i. (j k : ℕ) → ¬ (IsUnit g i j k) in
    let all = kept_all P c.points-a-items.result.now (spot_numbers g) c.loop-a.a-index c.points-a-items.ensures c.loop-a-test.false c.loop-a.invariant in
    λ i j k u. All-contains P (spot_numbers g) i all u.points.0 j k u

use Rattle.std.proofs.Common.{ℕ}
use Rattle.std.proofs.lemmas.List.Elements.{All-contains}
use Rattle.ntfe_model.specs.Charts.{spot_numbers, IsUnit}
use Rattle.face_chart.proofs.UnitLemmas.{kept_more, kept_all}
use Rattle.face_chart.proofs.units.unit_with.Goals as goal

pub loop-b-preserved : goal.loop-b-preserved
loop-b-preserved c =
    let g = c.args.table.now in
    let P : ℕ → Type 0 = λ j. (k : ℕ) → ¬ (IsUnit g c.args.a j k) in
    kept_more P c.points-b-items.result.now (spot_numbers g) c.loop-b.b-index c.points-b-items.ensures c.loop-b-test.true c.loop-b.invariant c.in_default.ensures

pub returns : goal.returns
returns c =
    let g = c.args.table.now in
    let P : ℕ → Type 0 = λ j. (k : ℕ) → ¬ (IsUnit g c.args.a j k) in
    let all = kept_all P c.points-b-items.result.now (spot_numbers g) c.loop-b.b-index c.points-b-items.ensures c.loop-b-test.false c.loop-b.invariant in
    λ j k u. All-contains P (spot_numbers g) j all u.points.1 k u

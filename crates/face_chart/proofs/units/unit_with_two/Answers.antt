use Rattle.std.proofs.Common.{ℕ}
use Rattle.std.proofs.lemmas.List.Elements.{All-contains}
use Rattle.ntfe_model.specs.Charts.{spot_numbers, IsUnit}
use Rattle.face_chart.proofs.UnitLemmas.{kept_more, kept_all}
use Rattle.face_chart.proofs.units.unit_with_two.Goals as goal

pub loop-c-preserved : goal.loop-c-preserved
loop-c-preserved c =
    let g = c.args.table.now in
    let P : ℕ → Type 0 = λ k. ¬ (IsUnit g c.args.a c.args.b k) in
    kept_more P c.points-c-items.result.now (spot_numbers g) c.loop-c.c-index c.points-c-items.ensures c.loop-c-test.true c.loop-c.invariant (c.is_unit.ensures.when_false c.if-is_unit.false)

pub returns : goal.returns
returns c =
    let g = c.args.table.now in
    let P : ℕ → Type 0 = λ k. ¬ (IsUnit g c.args.a c.args.b k) in
    let all = kept_all P c.points-c-items.result.now (spot_numbers g) c.loop-c.c-index c.points-c-items.ensures c.loop-c-test.false c.loop-c.invariant in
    λ k u. All-contains P (spot_numbers g) k all u.points.2 u

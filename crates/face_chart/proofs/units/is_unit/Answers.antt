use Rattle.std.proofs.Common.{subst, ℕ, List, get_or}
use Rattle.std.specs.Prelude.{Contains}
use Rattle.std.proofs.lemmas.List.Elements.{All-contains, Contains-get_or}
use Rattle.ntfe_model.specs.Charts.{spot_numbers}
use Rattle.face_chart.specs.Units.{IsReached}
use Rattle.ntfe_model.proofs.FlatLemmas.{most_zero_from_test, over_zero_from_test}
use Rattle.ntfe_model.proofs.PlaneNumbers.{sign_positive}
use Rattle.ntfe_model.proofs.UnitTriples.{area_of, unit_area}
use Rattle.face_chart.proofs.UnitLemmas.{kept_more, kept_all}
use Rattle.ntfe_nums.proofs.Signs.{positive_same, not_both_signs}
use Rattle.face_chart.proofs.units.is_unit.Goals as goal

pub loop-p-preserved : goal.loop-p-preserved
loop-p-preserved c =
    let g = c.args.table.now in
    kept_more (IsReached g c.args.a c.args.b c.args.c) c.points-p-items.result.now (spot_numbers g) c.loop-p.p-index c.points-p-items.ensures c.loop-p-test.true c.loop-p.invariant
    (c.reaches.ensures.when_true c.if-not-reaches.false)

pub returns : goal.returns
returns c =
    let g = c.args.table.now in
    let R = IsReached g c.args.a c.args.b c.args.c in
    let all = kept_all R c.points-p-items.result.now (spot_numbers g) c.loop-p.p-index c.points-p-items.ensures c.loop-p-test.false c.loop-p.invariant in
    record {
      when_true = λ t. record {
        points = (c.requires.a, c.requires.b, c.requires.c);
        left = sign_positive (area_of g c.args.a c.args.b c.args.c) (positive_same c.area.result _ c.area.ensures.value (over_zero_from_test c.area.result c.area.ensures.size c.if-area-le0.false));
        reaches = λ p o. All-contains R (spot_numbers g) p all o;
      };
      when_false = λ t. cc;
    }

pub returns-then-area-le0 : goal.returns-then-area-le0
returns-then-area-le0 c =
    let g = c.args.table.now in
    record {
      when_true = λ t. cc;
      when_false = λ t u. not_both_signs c.area.result _ c.area.ensures.value (most_zero_from_test c.area.result c.area.ensures.size c.if-area-le0.true) (unit_area g c.args.a c.args.b c.args.c u);
    }

pub returns-then-not-reaches : goal.returns-then-not-reaches
returns-then-not-reaches c =
    let g = c.args.table.now in
    let ks = c.points-p-items.result.now in
    let P = λ (ls : List ℕ). Contains ls (get_or ks c.loop-p.p-index 0) in
    record {
      when_true = λ t. cc;
      when_false = λ t u. c.reaches.ensures.when_false c.if-not-reaches.true
          (u.reaches (get_or ks c.loop-p.p-index 0) (subst P c.points-p-items.ensures (Contains-get_or ks c.loop-p.p-index 0 c.loop-p-test.true)));
    }

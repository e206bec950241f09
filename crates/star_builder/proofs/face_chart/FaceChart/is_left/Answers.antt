use Rattle.std.proofs.Common.{◌∙◌, ap, sym, arith}
use Rattle.ntfe_nums.specs.Vectors.{sign}
use Rattle.ntfe_model.proofs.PlaneNumbers.{sign_positive}
use Rattle.ntfe_model.proofs.FlatLemmas.{positive_from_test}
use Rattle.star_builder.proofs.face_chart.FaceChart.is_left.Goals as goal

pub returns-clause-when_true : goal.returns-clause-when_true
returns-clause-when_true c = λ t.
    record {
      points = (c.has.ensures.when_true c.if-not-has.false, c.has-else-not-has.ensures.when_true c.if-not-has-2.false, c.has-else-not-has-2.ensures.when_true c.if-not-has-3.false);
      turned = ap sign (sym c.area.ensures.value) ∙ sign_positive c.area.result (positive_from_test c.area.result c.area.ensures.size t);
      least = (let e = c.if-b-a.false in omega arith, (let e = c.if-c-a.false in omega arith));
    }

use Rattle.std.proofs.Common.{◌∙◌, sym, ap}
use Rattle.ntfe_nums.specs.Vectors.{sign}
use Rattle.ntfe_model.specs.Charts.{turn}
use Rattle.ntfe_model.proofs.FlatLemmas.{positive_from_test, not_positive_from_test, negative_from_test, not_negative_from_test, zero_between}
use Rattle.ntfe_model.proofs.PlaneNumbers.{sign_positive, sign_negative}
use Rattle.face_chart.proofs.charts.Chart.orient.Goals as goal

pub returns-then-area-gt0 : goal.returns-then-area-gt0
returns-then-area-gt0 c =
    let z = c.area-area.result in
    sym (sym (ap (λ h. turn h c.args.a c.args.b c.args.c) c.self.view_is) ∙ ap sign (sym c.area-area.ensures.value) ∙ sign_positive z (positive_from_test z c.area-area.ensures.size c.if-area-gt0.true))

pub returns-then-area-lt0 : goal.returns-then-area-lt0
returns-then-area-lt0 c =
    let z = c.area-area.result in
    sym (sym (ap (λ h. turn h c.args.a c.args.b c.args.c) c.self.view_is) ∙ ap sign (sym c.area-area.ensures.value) ∙ sign_negative z (negative_from_test z c.area-area.ensures.size c.if-area-lt0.true))

pub returns : goal.returns
returns c =
    let z = c.area-area.result in
    let s = c.area-area.ensures.size in
    sym (sym (ap (λ h. turn h c.args.a c.args.b c.args.c) c.self.view_is) ∙ ap sign (sym c.area-area.ensures.value ∙ zero_between z (not_positive_from_test z s c.if-area-gt0.false) (not_negative_from_test z s c.if-area-lt0.false)))

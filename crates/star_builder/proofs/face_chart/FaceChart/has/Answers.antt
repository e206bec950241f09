use Rattle.std.proofs.Common.{◌∙◌, sym}
use Rattle.star_builder.proofs.FaceChartLemmas.{found_in, not_found_in, of_numbers, of_patch}
use Rattle.star_builder.proofs.face_chart.FaceChart.has.Goals as goal

pub returns-clause-when_true : goal.returns-clause-when_true
returns-clause-when_true c = λ t.
    let s = c.args.self.now in
    of_patch s.numbers.now s.points.now c.args.a (found_in s.numbers.now c.args.a (sym c.contains.ensures.value ∙ t))

pub returns-clause-when_false : goal.returns-clause-when_false
returns-clause-when_false c = λ t o.
    let s = c.args.self.now in
    not_found_in s.numbers.now c.args.a (sym c.contains.ensures.value ∙ t) (of_numbers s.numbers.now s.points.now c.args.a o)

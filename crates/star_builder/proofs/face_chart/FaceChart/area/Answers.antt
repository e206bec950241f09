use Rattle.std.proofs.Common.{◌∙◌, sym}
use Rattle.ntfe_model.specs.Flats.{area_of_flats, flat_of}
use Rattle.ntfe_model.proofs.FlatLemmas.{word_back}
use Rattle.star_builder.proofs.FaceChartLemmas.{known_at, place_at}
use Rattle.star_builder.proofs.face_chart.FaceChart.area.Goals as goal

pub place-requires-clause-number : goal.place-requires-clause-number
place-requires-clause-number c = known_at c.args.self.now.numbers.now c.args.self.now.points.now c.args.a c.args.self.now.known c.requires.first

pub place-requires-2-clause-number : goal.place-requires-2-clause-number
place-requires-2-clause-number c = known_at c.args.self.now.numbers.now c.args.self.now.points.now c.args.b c.args.self.now.known c.requires.second

pub place-requires-3-clause-number : goal.place-requires-3-clause-number
place-requires-3-clause-number c = known_at c.args.self.now.numbers.now c.args.self.now.points.now c.args.c c.args.self.now.known c.requires.third

pub returns-clause-value : goal.returns-clause-value
returns-clause-value c =
    let ks = c.args.self.now.numbers.now in
    let xs = c.args.self.now.points.now in
    let q = c.args.self.now.axes_first in
    let a = c.place.ensures.value ∙ sym (place_at ks xs c.args.a c.requires.first) in
    let b = c.place-2.ensures.value ∙ sym (place_at ks xs c.args.b c.requires.second) in
    let d = c.place-3.ensures.value ∙ sym (place_at ks xs c.args.c c.requires.third) in
    word_back c.flat_area.result c.flat_area.ensures.size
    ∙ c.flat_area.ensures.value
    ∙ (λ i. area_of_flats (c.flatten-a.ensures.value i) (c.flatten-b.ensures.value i) (c.flatten-c.ensures.value i))
    ∙ (λ i. area_of_flats (flat_of (q i) (a i)) (flat_of (q i) (b i)) (flat_of (q i) (d i)))

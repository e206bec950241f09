use Rattle.std.proofs.Common.{◌<◌, ◌∙◌, ap, arith, get_or, length}
use Rattle.std.proofs.lemmas.List.Elements.{Contains-get_or}
use Rattle.ntfe_model.specs.Flats.{flat_of}
use Rattle.face_chart.proofs.PatchLemmas.{place_here}
use Rattle.face_chart.proofs.SpanLemmas.{spans_decided}
use Rattle.face_chart.proofs.span.spans.Goals as goal

pub returns : goal.returns
returns c =
    let ks = c.args.numbers.now in
    let vs = c.args.places.now in
    let f = c.if-is_empty.false in
    let g = c.is_empty.ensures in
    let l : 0 < length ks = grind (arith, f, g) in
    let here = place_here ks vs 0 c.index-places-numbers.result c.requires.known l c.index-places-numbers.is in
    spans_decided ks vs c.args.axes c.flatten-a.result (get_or ks 0 0) c.has_second.result (Contains-get_or ks 0 0 l)
    (c.flatten-a.ensures.value ∙ ap (flat_of c.args.axes) here) c.has_second.ensures.when_true c.has_second.ensures.when_false

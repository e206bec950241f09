use Rattle.std.proofs.Common.{arith}
use Rattle.ntfe_model.specs.Points.{place_of_point}
use Rattle.ntfe_model.proofs.TightLemmas.{facet_from_bits, none_from_bits}
use Rattle.star_builder.proofs.search.Search.common_facet.Goals as goal

pub returns-then-common-eq0 : goal.returns-then-common-eq0
returns-then-common-eq0 c =
    let xs = c.args.self.now.points.now in
    none_from_bits (place_of_point xs c.args.a) (place_of_point xs c.args.b) (place_of_point xs c.args.c) (place_of_point xs c.args.d) c.args.self.now.dual.now
    c.mask.result c.mask-2.result c.mask-3.result c.mask-4.result c.mask.ensures c.mask-2.ensures c.mask-3.ensures c.mask-4.ensures c.if-common-eq0.true

pub returns : goal.returns
returns c =
    let xs = c.args.self.now.points.now in
    facet_from_bits (place_of_point xs c.args.a) (place_of_point xs c.args.b) (place_of_point xs c.args.c) (place_of_point xs c.args.d) c.args.self.now.dual.now
    c.mask.result c.mask-2.result c.mask-3.result c.mask-4.result c.mask.ensures c.mask-2.ensures c.mask-3.ensures c.mask-4.ensures (let t = c.mask-4.type_inv in omega arith) c.if-common-eq0.false

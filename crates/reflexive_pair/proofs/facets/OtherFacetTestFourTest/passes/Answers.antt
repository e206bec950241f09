use Rattle.std.proofs.Common.{◌<◌, length, arith}
use Rattle.ntfe_nums.specs.Vectors.{AreAffinelyIndependent}
use Rattle.ntfe_model.specs.Reflexive.{IsOnOneSide}
use Rattle.ntfe_model.proofs.TightLemmas.{read_at}
use Rattle.reflexive_pair.proofs.FirstLemmas.{same_four}
use Rattle.reflexive_pair.proofs.facets.OtherFacetTestFourTest.passes.Goals as goal

pub returns-clause-when_true : goal.returns-clause-when_true
returns-clause-when_true c = λ t.
    let vs = c.args.self.now.vertices.now in
    let ln : c.args.l < length vs = c.requires.fourth in
    let kn : c.args.k < length vs = omega arith in
    let jn : c.args.j < length vs = omega arith in
    let i_n : c.args.i < length vs = omega arith in
    let e = read_at vs c.args.i c.index-list-i.result c.index-list-i.is i_n in
    let f = read_at vs c.args.j c.index-list-j.result c.index-list-j.is jn in
    let g = read_at vs c.args.k c.index-list-k.result c.index-list-k.is kn in
    let h = read_at vs c.args.l c.index-list-l.result c.index-list-l.is ln in
    record {
      independent = same_four AreAffinelyIndependent e f g h (c.span_facet.ensures.independent t);
      one_side = same_four (λ a b c' d. IsOnOneSide a b c' d vs) e f g h (c.span_facet.ensures.one_side t);
      missing = c.is_described.ensures.when_false c.if-is_described.false;
    }

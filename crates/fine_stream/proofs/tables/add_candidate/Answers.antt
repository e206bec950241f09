use Rattle.std.proofs.Common.{◌≡◌, false, true, refl, subst}
use Rattle.fine_stream.specs.Places.{IsPlaceOf}
use Rattle.ntfe_model.specs.declared.triangle.Triangle.{Triangle}
use Rattle.fine_stream.proofs.TableLemmas.{closers_more, closers_same}
use Rattle.fine_stream.proofs.tables.add_candidate.Goals as goal

pub returns-then-not-unit : goal.returns-then-not-unit
returns-then-not-unit c = λ ks rise r.
    closers_same c.args.chart.now c.args.triples.now c.args.a c.args.b c.args.c ks c.args.candidates.now.items (λ u. absurd (let k : false ≡ true = c.if-not-unit.ensures.1 u in cc)) r

pub returns : goal.returns
returns c = λ ks rise r.
    let P : Triangle → Type 0 = λ t. IsPlaceOf c.args.triples.now c.place_of-place.result t in
    closers_more c.args.chart.now c.args.triples.now c.args.a c.args.b c.args.c _ ks c.args.candidates.now.items c.push.new.self.items refl c.requires.points.2
    (subst P c.written.ensures c.place_of-place.ensures.place) rise r c.in_ok-push.ensures.items

use Rattle.std.proofs.Common.{List, subst, sym, refl}
use Rattle.ntfe_model.specs.declared.triangle.Triangle.{Triangle}
use Rattle.ntfe_model.specs.Charts.{IsUnit}
use Rattle.fine_stream.specs.Places.{AreUnit}
use Rattle.ntfe_model.proofs.Listings.{all_next}
use Rattle.fine_stream.proofs.tables.add_triple.Goals as goal

pub returns-in_ok-push : goal.returns-in_ok-push
returns-in_ok-push c =
    let P : List Triangle → Type 0 = λ ts. AreUnit c.args.chart.now ts in
    let t : Triangle = record { a = c.args.a; b = c.args.b; c = c.args.c } in
    subst P (sym c.in_ok-push.ensures.items) (all_next (λ (u : Triangle). IsUnit c.args.chart.now u.a u.b u.c) c.args.triples.now.items t c.requires.unit (c.if-unit.ensures.0 refl))

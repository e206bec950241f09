use Rattle.std.proofs.Common.{length}
use Rattle.ntfe_model.specs.Stars.{order_of}
use Rattle.star_builder.proofs.FacetWalks.{added_next}
use Rattle.star_builder.proofs.building.add_all.Goals as goal

pub loop-place-preserved : goal.loop-place-preserved
loop-place-preserved c =
    let g = c.args.geometry.now in
    added_next g.pair.dual g.points c.args.heights.now (order_of c.args.search.now.push (length g.points)) c.loop-place.place c.loop-place.simplices.items c.add_facet.new.simplices.items c.loop-place.invariant c.in_ok-add_facet.ensures

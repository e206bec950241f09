use Rattle.std.proofs.Common.{length}
use Rattle.ntfe_model.specs.Stars.{order_of}
use Rattle.star_builder.specs.Walks.{AreAdded}
use Rattle.star_builder.proofs.building.add_all.Given as goal

abbrev pub invariant-loop-place : goal.invariant-loop-place
invariant-loop-place l = AreAdded l.geometry.pair.dual l.geometry.points l.heights (order_of l.search.push (length l.geometry.points)) l.place l.simplices.items

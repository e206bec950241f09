use Rattle.std.proofs.Common.{length}
use Rattle.ntfe_model.specs.Reflexive.{at}
use Rattle.ntfe_model.specs.Stars.{order_of}
use Rattle.star_builder.specs.Others.{AreOthersAbove}
use Rattle.star_builder.proofs.search.Search.are_others_above.Given as goal

abbrev pub invariant-loop-place : goal.invariant-loop-place
invariant-loop-place l = AreOthersAbove l.self.points.now l.self.heights.now (order_of l.self.push (length l.self.points.now)) (at l.self.dual.now l.facet) l.four l.place

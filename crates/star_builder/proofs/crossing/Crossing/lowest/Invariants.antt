use Rattle.std.proofs.Common.{length}
use Rattle.ntfe_model.specs.Stars.{order_of}
use Rattle.star_builder.specs.Ridges.{IsCandidateTo}
use Rattle.star_builder.proofs.crossing.Crossing.lowest.Given as goal

abbrev pub invariant-loop-place : goal.invariant-loop-place
invariant-loop-place l = IsCandidateTo l.self.points.now l.self.heights.now (order_of l.self.push (length l.self.points.now)) l.self.facet.now l.self.ridge l.self.without l.place l.lowest

use Rattle.std.proofs.Common.{length, take}
use Rattle.ntfe_model.specs.Stars.{order_of}
use Rattle.star_builder.specs.Walks.{IsStep}
use Rattle.star_builder.proofs.walk.cross_all.Given as goal

abbrev pub invariant-loop-without : goal.invariant-loop-without
invariant-loop-without l =
    IsStep l.geometry.pair.dual l.geometry.points l.heights (order_of l.push (length l.geometry.points)) l.fn.member (take l.without-index l.fn.member) l.initial.reached.items l.reached.items

use Rattle.std.proofs.Common.{length}
use Rattle.ntfe_model.specs.Stars.{order_of}
use Rattle.star_builder.specs.Walks.{IsWalked}
use Rattle.star_builder.proofs.walk.reach.Given as goal

abbrev pub invariant-loop-next : goal.invariant-loop-next
invariant-loop-next l = IsWalked l.geometry.pair.dual l.geometry.points l.heights (order_of l.push (length l.geometry.points)) l.facet l.next l.reached.items

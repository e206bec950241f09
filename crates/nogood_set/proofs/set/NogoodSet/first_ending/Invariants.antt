use Rattle.std.proofs.Common.{slice_index}
use Rattle.nogood_set.proofs.Walks.{Walked, steps_left}
use Rattle.nogood_set.proofs.set.NogoodSet.first_ending.Given as goal

abbrev pub invariant-loop-next : goal.invariant-loop-next
invariant-loop-next l = Walked l.self l.head (l.face, slice_index l.head l.face) l.next l.first

abbrev pub decreases-loop-next : goal.decreases-loop-next
decreases-loop-next l = steps_left l.next

use Rattle.std.proofs.Common.{ℕ, ◌<◌}
use Rattle.fine_triples.specs.ShareNumbers.{IsMetAt}
use Rattle.fine_triples.proofs.meeting.do_meet_inside.Given as goal

abbrev pub invariant-loop-i : goal.invariant-loop-i
invariant-loop-i l = (k : ℕ) → k < l.i → IsMetAt l.shares l.d l.e l.r k

use Rattle.steal_ring.specs.Seats.{IsSameSeat}
use Rattle.steal_ring.proofs.tests.works.Given as goal

abbrev pub invariant-loop-number : goal.invariant-loop-number
invariant-loop-number l = IsSameSeat l.initial.seat l.seat

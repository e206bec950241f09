use Rattle.std.proofs.Common.{◌≡◌}
use Rattle.steal_ring.specs.Seats.{IsSameSeat}
use Rattle.steal_workers.proofs.working.take_back.Given as goal

abbrev pub invariant-loop-offer : goal.invariant-loop-offer
invariant-loop-offer l = record { seat : IsSameSeat l.fn.seat l.seat; worker : l.worker ≡ l.fn.worker }

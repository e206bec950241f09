use Rattle.std.proofs.Common.{arith}
use Rattle.steal_ring.proofs.Steps.{puts}
use Rattle.steal_ring.proofs.seat.Seat.push.Goals as goal

pub push_as-requires-clause-pushes : goal.push_as-requires-clause-pushes
push_as-requires-clause-pushes c = puts _ _ _ (omega (arith, c.self.invariant.1))

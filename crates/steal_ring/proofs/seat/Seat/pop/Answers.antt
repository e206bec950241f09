use Rattle.std.proofs.Common.{arith}
use Rattle.steal_ring.proofs.Steps.{takes}
use Rattle.steal_ring.proofs.seat.Seat.pop.Goals as goal

pub pop_as-requires-clause-fifo : goal.pop_as-requires-clause-fifo
pop_as-requires-clause-fifo c = λ _. takes _ _ (omega (arith, c.self.invariant.1))

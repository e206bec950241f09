use Rattle.std.proofs.Common.{arith}
use Rattle.steal_ring.proofs.Steps.{takes}
use Rattle.steal_ring.proofs.victim.Victim.steal.Goals as goal

pub steal_as-requires-clause-takes : goal.steal_as-requires-clause-takes
steal_as-requires-clause-takes c = takes _ _ (omega (arith, c.self.invariant.2))

use Rattle.std.proofs.Common.{arith, ap}
use Rattle.steal_ring.proofs.Steps.{forks}
use Rattle.steal_ring.specs.declared.conservation.History.{History}
use Rattle.steal_ring.proofs.victim.new_deque.Goals as goal

pub another-pass-requires : goal.another-pass-requires
another-pass-requires c = forks _ _ (omega (arith, ap (λ (v : History). v.parts) c.in_ok-own.ensures.4))

use Rattle.std.proofs.Common.{◌≡◌, ◌+◌, length}
use Rattle.steal_workers.proofs.pool.stakes_of.Given as goal

abbrev pub invariant-loop-stake : goal.invariant-loop-stake
invariant-loop-stake g l = (l.rest.parts + l._stake ≡ l.count) × (l.rest.amount ≡ 0) × (length l.stakes.items ≡ l._stake)

use Rattle.std.proofs.Common.{◌≡◌}
use Rattle.steal_ring.specs.Seats.{IsSameSeat}
use Rattle.steal_workers.specs.Tallies.{IsSameTally}
use Rattle.steal_workers.proofs.pool.Pool.take_turns.Given as goal

abbrev pub invariant-loop : goal.invariant-loop
invariant-loop g l = record {
  more : (goal.iterator-loop g).can_next l.iterator';
  bounded : (goal.iterator-loop g).is_finite l.iterator';
  seat : IsSameSeat l.fn.seat l.seat;
  worker : l.worker ≡ l.fn.worker;
  tally : IsSameTally l.fn.mine l.mine;
}

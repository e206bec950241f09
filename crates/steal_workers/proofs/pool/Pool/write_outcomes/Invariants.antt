use Rattle.std.proofs.Common.{◌≡◌, ◌≤◌}
use Rattle.std.specs.Prelude.{IfSome}
use Rattle.steal_workers.specs.Listings.{GoesOn}
use Rattle.steal_workers.specs.Boards.{IsPlace}
use Rattle.steal_workers.specs.Pools.{probes_of}
use Rattle.steal_workers.specs.Tallies.{IsSameTally}
use Rattle.steal_workers.proofs.pool.Pool.write_outcomes.Given as goal

-- the classes up to the last one are written
abbrev pub invariant-loop : goal.invariant-loop
invariant-loop g l = record {
  more : (goal.iterator-loop g).can_next l.iterator';
  bounded : (goal.iterator-loop g).is_finite l.iterator';
  on : GoesOn l.fn.writer l.writer (record { before = g.K.Sink.taken l.fn.out; after = g.K.Sink.taken l.out });
  listed : l.writer.listed ≡ l.fn.writer.listed;
  place : IsPlace l.writer.listed l.writer.last;
  later : g.K.Sink.faults l.fn.out ≤ g.K.Sink.faults l.out;
  tally : IsSameTally l.fn.mine l.mine;
  helper : IfSome l.helper (λ w. w ≡ probes_of l.fn.self);
}

use Rattle.std.proofs.Common.{◌≡◌, arith}
use Rattle.steal_workers.specs.Listings.{at_start}
use Rattle.steal_workers.specs.Pools.{listed_by}
use Rattle.steal_workers.specs.declared.served.Served.{Served}
use Rattle.steal_workers.proofs.Ends.{none_yet, part_written}
use Rattle.steal_workers.proofs.together.fn.serve_beside.join_mut+arg3.Goals as goal

pub returns-in_default : goal.returns-in_default
returns-in_default g c =
    let l = listed_by c.captures.pool.now c.captures.form.now c.captures.limit in
    let a = g.K.Sink.taken c.captures.out.now in
    let n = g.K.Sink.faults c.captures.out.now in
    record {
      served = part_written (at_start l) (record { before = a; after = a }) (none_yet l a);
      cause = λ e. absurd (let x : Served.Memory ≡ Served.WriteFault = e in cc);
      later = omega arith;
    }

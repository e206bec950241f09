use Rattle.steal_workers.proofs.Ends.{part_written}
use Rattle.steal_workers.proofs.pool.Pool.list_on.Goals as goal

pub returns-in-Err-clause-ends : goal.returns-in-Err-clause-ends
returns-in-Err-clause-ends g c earlier h = part_written c.args.writer.now (record { before = earlier; after = g.K.Sink.taken c.args.out.now }) h

use Rattle.std.proofs.Common.{◌≡◌}
use Rattle.steal_workers.proofs.pool.share_out.Given as goal

abbrev pub invariant-loop-key : goal.invariant-loop-key
invariant-loop-key o l = record { board : l.board ≡ l.fn.board; worker : l.worker ≡ l.fn.worker }

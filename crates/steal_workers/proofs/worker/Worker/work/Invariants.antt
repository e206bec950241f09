use Rattle.std.proofs.Common.{◌≡◌}
use Rattle.steal_workers.proofs.worker.Worker.work.Given as goal

abbrev pub invariant-loop-key : goal.invariant-loop-key
invariant-loop-key g l = l.self ≡ l.fn.self

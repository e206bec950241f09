use Rattle.std.proofs.Common.{◌≡◌, ◌++◌, ◌-◌, length}
use Rattle.crossbeam_deque.specs.Handles.{worker_view, worker_flavor}
use Rattle.steal_ring.proofs.closing.drain.Given as goal

abbrev pub invariant-loop-key : goal.invariant-loop-key
invariant-loop-key l = (worker_flavor l.own ≡ 0) × ((worker_view l.own).parts ≡ 2) × ((worker_view l.own).put ≡ (worker_view l.initial.own).put)
    × ((rest : _) × (l.keys.items ≡ l.initial.keys.items ++ rest) × ((worker_view l.own).taken ≡ (worker_view l.initial.own).taken ++ rest))

abbrev pub decreases-loop-key : goal.decreases-loop-key
decreases-loop-key l = length (worker_view l.own).put - length (worker_view l.own).taken

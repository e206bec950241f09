use Rattle.std.proofs.Common.{◌≡◌, ◌-◌, ◌≤◌, []}
use Rattle.crossbeam_deque.specs.Handles.{worker_deque, worker_view, worker_flavor, stealer_deque}
use Rattle.steal_ring.specs.Conservation.{history}
use Rattle.steal_ring.proofs.Rings.{Linking}
use Rattle.steal_ring.proofs.linking.Ring.seats.Given as goal

abbrev pub invariant-loop-number : goal.invariant-loop-number
invariant-loop-number l = Linking l.seats.items (stealer_deque l.first-inside.thief).0 (worker_deque l.own).0 l.number × (worker_flavor l.own ≡ 0) × (worker_view l.own ≡ history 1 [] []) × (l.number ≤ l.workers)

abbrev pub decreases-loop-number : goal.decreases-loop-number
decreases-loop-number l = l.workers - l.number

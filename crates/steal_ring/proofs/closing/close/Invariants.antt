use Rattle.std.proofs.Common.{◌≡◌, length}
use Rattle.crossbeam_deque.specs.Handles.{worker_deque, worker_view, worker_flavor, stealer_deque, view}
use Rattle.steal_ring.proofs.Rings.{Closing}
use Rattle.steal_ring.proofs.closing.close.Given as goal

abbrev pub invariant-loop-seat : goal.invariant-loop-seat
invariant-loop-seat l = Closing l.fn.seats l.seats.items (worker_deque l.own).0 (worker_view l.own).put (worker_view l.own).taken (stealer_deque l.victim-inside.thief).0 (view l.victim-inside.pass).taken l.keys.items l.pushed l.taken × (worker_flavor l.own ≡ 0) × ((worker_view l.own).parts ≡ 1)

abbrev pub decreases-loop-seat : goal.decreases-loop-seat
decreases-loop-seat l = length l.seats.items

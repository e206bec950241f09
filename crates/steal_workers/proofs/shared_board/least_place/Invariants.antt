use Rattle.std.proofs.Common.{◌<◌, length}
use Rattle.steal_workers.proofs.shared_board.least_place.Given as goal

abbrev pub invariant-loop-place : goal.invariant-loop-place
invariant-loop-place l = l.least < length l.keys

use Rattle.std.proofs.Common.{length}
use Rattle.steal_workers.proofs.together.jobs_of.Given as goal

abbrev pub decreases-loop-seat : goal.decreases-loop-seat
decreases-loop-seat g l = length l.seats.items

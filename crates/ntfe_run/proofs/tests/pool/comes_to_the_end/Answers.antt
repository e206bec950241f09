use Rattle.steal_ring.proofs.SameSeats.{same_pair}
use Rattle.ntfe_run.proofs.tests.pool.comes_to_the_end.Goals as goal

pub is_used_up-requires : goal.is_used_up-requires
is_used_up-requires g c = same_pair _ _ _ _ c.work-first.ensures.seat c.push_first_key.ensures c.requires

use Rattle.steal_ring.proofs.SameSeats.{same_pair}
use Rattle.steal_ring.proofs.tests.two_threads_take_each_key_once.Goals as goal

pub close_pair-requires : goal.close_pair-requires
close_pair-requires g c = same_pair _ _ _ _ c.work_side_by_side-one.ensures.one c.work_side_by_side-one.ensures.two c.in_ok-one.ensures

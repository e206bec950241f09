use Rattle.steal_ring.proofs.SameSeats.{same_pair}
use Rattle.steal_ring.proofs.tests.a_key_is_stolen_or_popped.Goals as goal

pub close_pair-requires : goal.close_pair-requires
close_pair-requires g c = same_pair _ _ _ _ c.uses-right.ensures.one c.uses-right.ensures.two c.in_ok-one.ensures
